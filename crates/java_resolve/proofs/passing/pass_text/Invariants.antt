use Rattle.std.proofs.Common.{◌≡◌, ℕ, Bool, List, [], chars, length}
use denote.Shadow.{shadow}
use denote.Text.{Utf8}
use Rattle.java_resolve.specs.Pieces.{cut}
use Rattle.java_resolve.specs.Known.{Passes, Knows}
use Rattle.java_resolve.proofs.passing.pass_text.Given as goal

abbrev pub invariant-loop-c : goal.invariant-loop-c
invariant-loop-c l = record {
  passes : (d : List ℕ → Bool) (bound : List (List ℕ)) → Knows l.set d bound → (to : ℕ) (r : Bool) → Passes d (cut bound l.name (chars l.rest)) l.at to r → Passes d (cut bound [] (chars l.fn.text)) l.fn.at to r;
  text : shadow (Utf8 l.rest);
}

abbrev pub decreases-loop-c : goal.decreases-loop-c
decreases-loop-c l = length l.rest
