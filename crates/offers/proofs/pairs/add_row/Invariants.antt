use Rattle.std.proofs.Common.{◌≡◌, ◌++◌}
use Rattle.offers.specs.Pairs.{row_of}
use Rattle.offers.specs.Types.{is_below_at}
use Rattle.offers.specs.Views.{scene}
use Rattle.offers.proofs.pairs.add_row.Given as goal

abbrev pub invariant-loop-high : goal.invariant-loop-high
invariant-loop-high l = l.pairs ≡ l.initial.pairs ++ row_of (is_below_at (scene l.view) l.types.types) l.low l.high
