use Rattle.class_summary.specs.Sources.{internal_name}
use Rattle.offers.proofs.Lists.{range-on}
use Rattle.offers.proofs.view.own_names.Goals as goal

pub loop-i-preserved : goal.loop-i-preserved
loop-i-preserved c = range-on (internal_name c.args.unit.now) c.loop-i.i c.loop-i.own c.push.new.self c.in_ok-internal_name.field-0 c.loop-i.invariant c.in_ok-internal_name.ensures.name c.in_ok-push.ensures.ok
