use Rattle.std.proofs.Common.{rules}
use Rattle.graphs.proofs.Turning.{empty-none, empty-more}
use Rattle.graphs.proofs.joined.no_rows.Goals as goal

pub loop-init : goal.loop-init
loop-init c = empty-none c.new-rows.result.items (search rules)

pub loop-preserved : goal.loop-preserved
loop-preserved c = empty-more c.loop.rows.items c.push.new.self.items c.new.result c.loop.counter c.loop.invariant (search rules) (search rules)
