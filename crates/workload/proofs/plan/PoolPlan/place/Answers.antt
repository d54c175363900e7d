use Rattle.std.proofs.Common.{ap, ◌∙◌, List}
use Rattle.workload.specs.Needs.{Needed, number, place}
use Rattle.workload.specs.Views.{need_seen}
use Rattle.workload.proofs.PlanLaws.{position_is}
use Rattle.workload.proofs.plan.PoolPlan.place.Goals as goal

pub returns-in-Some : goal.returns-in-Some
unfolding place
returns-in-Some c = ap number (c.in-Some.ensures.index ∙ position_is c.args.need c.self.inside.entries.keys) ∙ ap (λ (p : List Needed). place p (need_seen c.args.need)) c.self.view_is

pub returns-in-None : goal.returns-in-None
unfolding place
returns-in-None c = ap number (c.in-None.ensures.index ∙ position_is c.args.need c.self.inside.entries.keys) ∙ ap (λ (p : List Needed). place p (need_seen c.args.need)) c.self.view_is
