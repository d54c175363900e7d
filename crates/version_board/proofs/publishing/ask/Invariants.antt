use Rattle.std.proofs.Common.{◌≡◌}
use mathlib.Core.List.{IsPrefix}
use Rattle.version_board.proofs.publishing.ask.Given as goal

abbrev pub invariant-loop : goal.invariant-loop
invariant-loop g l = IsPrefix l.fn.pass.seen l.pass.seen × (l.pass.reads ≡ l.fn.pass.reads) × (l.change ≡ l.fn.change)
