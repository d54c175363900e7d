use Rattle.std.proofs.Common.{length}
use Rattle.offers.specs.Types.{is_below_at}
use Rattle.offers.specs.Views.{scene}
use Rattle.offers.proofs.PairRows.{rows-start, rows-on}
use Rattle.offers.proofs.pairs.placed_pairs.Goals as goal

pub loop-low-init : goal.loop-low-init
loop-low-init c = rows-start (length c.args.types.now.types) (is_below_at (scene c.args.view.now) c.args.types.now.types) c.new-pairs.result c.new-pairs.ensures

pub loop-low-preserved : goal.loop-low-preserved
loop-low-preserved c = rows-on (length c.args.types.now.types) (is_below_at (scene c.args.view.now) c.args.types.now.types) c.loop-low.low c.loop-low.pairs c.add_row.new.pairs c.loop-low.invariant c.in_ok-add_row.ensures
