use Rattle.std.proofs.Common.{◌∙◌}
use Rattle.reconstruction.proofs.Running.{running_first}
use Rattle.reconstruction.proofs.rebuild.Rebuild.new.Goals as goal

pub invariant_of-result : goal.invariant_of-result
invariant_of-result c = running_first c.in_ok-tables.tables c.begin.new.arena c.new-3.result c.begin.new.queue.items c.begin.new.queue.pops c.new-5.result.items c.in_ok-tables.ensures.complete c.in_ok-begin.ensures.at (c.begin.ensures.pops ∙ c.new-queue.ensures.no_pops) c.new-3.ensures.fresh c.new-5.ensures.items
