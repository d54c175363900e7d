use Rattle.std.specs.BTreeMap.{get_by_text}
use Rattle.class_summary.proofs.Imports.{GiveImportedFrom}
use Rattle.class_summary.proofs.single_imports.singles_in.Given as goal

abbrev pub invariant-loop-left : goal.invariant-loop-left
invariant-loop-left l = GiveImportedFrom l.imports l.left (get_by_text l.places)

abbrev pub decreases-loop-left : goal.decreases-loop-left
decreases-loop-left l = l.left
