use Rattle.std.proofs.Common.{◌≡◌}
use mathlib.Core.List.{IsPrefix}
use Rattle.left_right.specs.Sides.{view as known}
use Rattle.version_board.proofs.pass.learn_entry.Given as goal

abbrev pub invariant-loop : goal.invariant-loop
invariant-loop g l = IsPrefix (known l.fn.reader.place).seen (known l.reader.place).seen × ((known l.reader.place).reads ≡ (known l.fn.reader.place).reads)
