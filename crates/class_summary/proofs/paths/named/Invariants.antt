use Rattle.std.proofs.Common.{◌≡◌, ◌++◌, take, map}
use Rattle.class_summary.specs.Sources.{name_at}
use Rattle.class_summary.proofs.paths.named.Given as goal

abbrev pub invariant-loop-i : goal.invariant-loop-i
invariant-loop-i l = l.names ≡ l.unit.package ++ map (name_at l.unit.classes) (take l.i l.numbers)
