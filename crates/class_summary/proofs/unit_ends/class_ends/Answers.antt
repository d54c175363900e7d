use Rattle.std.proofs.Common.{◌∙◌, ap, sym, subst, length, ℕ, List, Option, None}
use Rattle.class_summary.specs.Variables.{Scope, scopes_at}
use Rattle.class_summary.specs.VariableEnds.{Reach, AreEnds, AreToldOutside, AreClassEnds}
use Rattle.class_summary.proofs.Scopes.{told_outside, no_classes, pushed_on, pushed_size}
use Rattle.class_summary.proofs.unit_ends.class_ends.Goals as goal

pub loop-i-init : goal.loop-i-init
loop-i-init c =
    let P : List (List (Option Reach)) → Type 0 = λ t. AreClassEnds c.args.classes.now t in
    record {
      size = ap (λ (t : List (List (Option Reach))). length t) (sym c.new-all.ensures.items);
      ends = subst P (sym c.new-all.ensures.items) (no_classes c.args.classes.now);
    }

pub ends_in-requires : goal.ends_in-requires
ends_in-requires c =
    let cs = c.args.classes.now in
    let P : List Scope → Type 0 = λ ss. AreToldOutside ss c.as_slice-in-loop-i.result.now in
    let Q : List (List (Option Reach)) → Type 0 = λ t. AreToldOutside (scopes_at cs c.loop-i.i None) t in
    subst P (sym (c.as_slice.ensures.value ∙ c.in_ok-scopes.ensures)) (subst Q (sym c.as_slice-in-loop-i.ensures.value) (told_outside cs c.requires.nested c.loop-i.all.items c.loop-i.invariant.ends c.loop-i.i None))

pub loop-i-preserved : goal.loop-i-preserved
loop-i-preserved c =
    let cs = c.args.classes.now in
    let P : List Scope → Type 0 = λ ss. AreEnds ss c.in_ok-ends.ends in
    let here : AreEnds (scopes_at cs c.loop-i.i None) c.in_ok-ends.ends = subst P (c.as_slice.ensures.value ∙ c.in_ok-scopes.ensures) c.in_ok-ends.ensures in
    record {
      size = pushed_size c.loop-i.i c.in_ok-ends.ends c.loop-i.all.items c.push.new.self.items c.in_ok-push.ensures.items c.loop-i.invariant.size;
      ends = record { each = pushed_on (λ (k : ℕ) (e : List (Option Reach)). AreEnds (scopes_at cs k None) e) c.loop-i.i c.in_ok-ends.ends c.loop-i.all.items c.push.new.self.items c.in_ok-push.ensures.items c.loop-i.invariant.size here c.loop-i.invariant.ends.each };
    }
