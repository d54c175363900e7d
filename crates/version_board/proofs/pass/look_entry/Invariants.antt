use Rattle.std.proofs.Common.{◌≡◌}
use Rattle.left_right.specs.Sides.{view as known}
use Rattle.version_board.proofs.pass.look_entry.Given as goal

abbrev pub invariant-loop : goal.invariant-loop
invariant-loop g l = known l.reader.place ≡ known l.fn.reader.place
