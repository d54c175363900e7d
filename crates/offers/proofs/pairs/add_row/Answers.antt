use Rattle.offers.specs.Types.{is_below_at}
use Rattle.offers.specs.Views.{scene}
use Rattle.offers.proofs.PairRows.{row-start, row-on}
use Rattle.offers.proofs.pairs.add_row.Goals as goal

pub loop-high-init : goal.loop-high-init
loop-high-init c = row-start (is_below_at (scene c.args.view.now) c.args.types.now.types) c.args.low c.args.pairs.now

pub loop-high-preserved : goal.loop-high-preserved
loop-high-preserved c = row-on (is_below_at (scene c.args.view.now) c.args.types.now.types) c.args.low c.loop-high.high c.args.pairs.now c.loop-high.pairs c.add_pair.new.pairs c.loop-high.invariant c.in_ok-add_pair.ensures
