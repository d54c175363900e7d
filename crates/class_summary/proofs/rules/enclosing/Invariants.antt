use Rattle.std.proofs.Common.{◌≡◌, drop}
use Rattle.class_summary.specs.Names.{enclosing}
use Rattle.class_summary.proofs.rules.enclosing.Given as goal

abbrev pub invariant-loop-k : goal.invariant-loop-k
invariant-loop-k l = enclosing l.unit.classes l.name l.numbers ≡ enclosing l.unit.classes l.name (drop l.k l.numbers)
