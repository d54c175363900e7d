use Rattle.offers.proofs.Dims.{dims-start, dims-on}
use Rattle.offers.proofs.spelling.with_dims.Goals as goal

pub loop-n-init : goal.loop-n-init
loop-n-init c = dims-start c.args.text

pub loop-n-preserved : goal.loop-n-preserved
loop-n-preserved c = dims-on c.loop-n._n c.args.text c.loop-n.text c.push_str.new.self c.loop-n.invariant c.in_ok-push_str.ensures.ok
