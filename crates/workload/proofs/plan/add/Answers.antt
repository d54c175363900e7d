use Rattle.std.proofs.Common.{ap, map, ◌∙◌}
use Rattle.workload.specs.Views.{need_seen}
use Rattle.workload.proofs.PlanLaws.{add_is}
use Rattle.workload.proofs.plan.add.Goals as goal

pub returns : goal.returns
returns c = ap (map need_seen) c.in_ok-insert.ensures.keys ∙ add_is c.args.need c.args.entries.now.keys
