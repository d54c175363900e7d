use Rattle.std.proofs.Common.{◌<◌, length}
use Rattle.offers.proofs.groups.Groups.new.Given as goal

abbrev pub invariant-loop-row : goal.invariant-loop-row
invariant-loop-row l = 0 < length l.rows.items
