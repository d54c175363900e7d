use Rattle.std.proofs.Common.{◌≡◌, ◌<◌, ℕ, slice_get, Some}
use Rattle.java_units.specs.UnitLaws.{outer_number}
use Rattle.class_summary.proofs.unit_ends.is_nested.Given as goal

abbrev pub invariant-loop-i : goal.invariant-loop-i
invariant-loop-i l = (k o : ℕ) → k < l.i → outer_number (slice_get l.classes k) ≡ Some o → o < k
