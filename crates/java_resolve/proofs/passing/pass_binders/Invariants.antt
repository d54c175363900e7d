use Rattle.std.proofs.Common.{◌≡◌, ◌==◌, ℕ, Bool, true, List, drop}
use Rattle.java_resolve.specs.Pieces.{binder_pieces}
use Rattle.java_resolve.specs.Known.{Passes, Knows}
use Rattle.java_resolve.proofs.passing.pass_binders.Given as goal

abbrev pub invariant-loop-i : goal.invariant-loop-i
invariant-loop-i l =
    (d : List ℕ → Bool) (bound : List (List ℕ)) → Knows l.set d bound → (to : ℕ) (r : Bool) → Passes d (binder_pieces bound (l.i == 0) (drop l.i l.binders)) l.at to r → Passes d (binder_pieces bound true l.binders) l.fn.at to r
