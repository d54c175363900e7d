use Rattle.std.proofs.Common.{◌≡◌, length}
use Rattle.class_summary.specs.VariableEnds.{AreMethodEnds}
use Rattle.class_summary.proofs.unit_ends.all_method_ends.Given as goal

abbrev pub invariant-loop-i : goal.invariant-loop-i
invariant-loop-i l = record { size : l.i ≡ length l.all.items; ends : AreMethodEnds l.classes l.all.items }
