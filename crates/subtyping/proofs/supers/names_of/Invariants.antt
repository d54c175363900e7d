use Rattle.std.proofs.Common.{◌≡◌, ℕ, ◌<◌, slice_get, Some}
use Rattle.known_classes.specs.declared.summary.ClassSummary.{ClassSummary}
use Rattle.subtyping.specs.Places.{IsListed}
use Rattle.subtyping.proofs.supers.names_of.Given as goal

abbrev pub invariant-loop-place : goal.invariant-loop-place
invariant-loop-place g l = (i : ℕ) (c : ClassSummary) → i < l.place → slice_get (g.C.Classes.listed l.known) i ≡ Some c → IsListed l.names c
