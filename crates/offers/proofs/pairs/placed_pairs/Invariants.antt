use Rattle.std.proofs.Common.{◌≡◌, length}
use Rattle.offers.specs.Pairs.{rows_of}
use Rattle.offers.specs.Types.{is_below_at}
use Rattle.offers.specs.Views.{scene}
use Rattle.offers.proofs.pairs.placed_pairs.Given as goal

abbrev pub invariant-loop-low : goal.invariant-loop-low
invariant-loop-low l = l.pairs ≡ rows_of (length l.types.types) (is_below_at (scene l.view) l.types.types) l.low
