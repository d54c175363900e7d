use Rattle.std.proofs.Common.{◌≡◌, drop}
use Rattle.class_summary.specs.Names.{starred}
use Rattle.class_summary.proofs.rules.starred.Given as goal

abbrev pub invariant-loop-i : goal.invariant-loop-i
invariant-loop-i g l = starred l.unit (g.C.Classes.listed l.known) l.name l.imports ≡ starred l.unit (g.C.Classes.listed l.known) l.name (drop l.i l.imports)
