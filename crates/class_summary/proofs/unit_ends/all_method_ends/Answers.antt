use Rattle.std.proofs.Common.{◌≡◌, ℕ, List, Option, Some, slice_get}
use Rattle.class_summary.specs.Variables.{scopes_at}
use Rattle.class_summary.specs.VariableEnds.{Reach, AreEnds}
use Rattle.class_summary.proofs.Scopes.{pushed_on, pushed_size}
use Rattle.class_summary.proofs.unit_ends.all_method_ends.Goals as goal

pub loop-i-preserved : goal.loop-i-preserved
loop-i-preserved c =
    let cs = c.args.classes.now in
    let P : ℕ → List (List (Option Reach)) → Type 0 = λ k methods. (m : ℕ) (ends : List (Option Reach)) → slice_get methods m ≡ Some ends → AreEnds (scopes_at cs k (Some m)) ends in
    let all = pushed_on P c.loop-i.i c.in_ok-methods.methods c.loop-i.all.items c.push.new.self.items c.in_ok-push.ensures.items c.loop-i.invariant.size c.in_ok-methods.ensures (λ k methods e m ends f. c.loop-i.invariant.ends.each k m methods ends e f) in
    record {
      size = pushed_size c.loop-i.i c.in_ok-methods.methods c.loop-i.all.items c.push.new.self.items c.in_ok-push.ensures.items c.loop-i.invariant.size;
      ends = record { each = λ k m methods ends e f. all k methods e m ends f };
    }
