use Rattle.std.proofs.Common.{◌∙◌, sym, subst, ℕ, List, Option, Some}
use Rattle.class_summary.specs.Variables.{Scope, scopes_at}
use Rattle.class_summary.specs.VariableEnds.{Reach, AreEnds, AreToldOutside}
use Rattle.class_summary.proofs.Scopes.{told_outside, pushed_on, pushed_size}
use Rattle.class_summary.proofs.unit_ends.method_ends.Goals as goal

pub ends_in-requires : goal.ends_in-requires
ends_in-requires c =
    let cs = c.args.classes.now in
    let P : List Scope → Type 0 = λ ss. AreToldOutside ss c.args.tables.now in
    subst P (sym (c.as_slice.ensures.value ∙ c.in_ok-scopes.ensures)) (told_outside cs c.requires.nested c.args.tables.now c.requires.tables c.args.class (Some c.loop-m.m))

pub loop-m-preserved : goal.loop-m-preserved
loop-m-preserved c =
    let cs = c.args.classes.now in
    let P : List Scope → Type 0 = λ ss. AreEnds ss c.in_ok-ends.ends in
    let here : AreEnds (scopes_at cs c.args.class (Some c.loop-m.m)) c.in_ok-ends.ends = subst P (c.as_slice.ensures.value ∙ c.in_ok-scopes.ensures) c.in_ok-ends.ensures in
    record {
      size = pushed_size c.loop-m.m c.in_ok-ends.ends c.loop-m.each.items c.push.new.self.items c.in_ok-push.ensures.items c.loop-m.invariant.size;
      ends = pushed_on (λ (k : ℕ) (e : List (Option Reach)). AreEnds (scopes_at cs c.args.class (Some k)) e) c.loop-m.m c.in_ok-ends.ends c.loop-m.each.items c.push.new.self.items c.in_ok-push.ensures.items c.loop-m.invariant.size here c.loop-m.invariant.ends;
    }
