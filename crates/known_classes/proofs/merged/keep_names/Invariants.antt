use Rattle.std.proofs.Common.{◌≡◌, ◌<◌, ℕ, slice_get, Some}
use Rattle.known_classes.specs.declared.summary.ClassSummary.{ClassSummary}
use Rattle.known_classes.specs.Merging.{KeepsName}
use Rattle.known_classes.proofs.merged.keep_names.Given as goal

abbrev pub invariant-loop-class : goal.invariant-loop-class
invariant-loop-class g l = (i : ℕ) (e : ClassSummary) → i < l.class-index → slice_get l.extra i ≡ Some e → KeepsName (g.C.Classes.listed l.base) e
