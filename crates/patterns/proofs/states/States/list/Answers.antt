use Rattle.std.proofs.Common.{◌≡◌, ◌⊎◌, subst}
use Rattle.patterns.specs.States.{StateTable, IsListed}
use Rattle.patterns.proofs.states.States.list.Goals as goal

pub returns-clause-only : goal.returns-clause-only
returns-clause-only c s at = subst (λ (t : StateTable). IsListed t.keys s ⊎ (s ≡ c.args.state)) c.self.view_is (c.in_ok-place.ensures.only s at)
