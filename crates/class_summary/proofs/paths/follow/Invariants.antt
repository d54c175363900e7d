use Rattle.std.proofs.Common.{◌≡◌, ◌++◌, take}
use Rattle.class_summary.specs.Sources.{followed}
use Rattle.class_summary.proofs.paths.follow.Given as goal

abbrev pub invariant-loop-i : goal.invariant-loop-i
invariant-loop-i l = l.text ≡ l.fn.text ++ followed l.sign (take l.i l.parts)
