use Rattle.std.proofs.Common.{subst}
use Rattle.succinct.specs.Compression.{AreDistinct}
use Rattle.succinct.proofs.Needs.{distinct_from}
use Rattle.patterns.specs.States.{StateTable}
use Rattle.patterns.proofs.Mets.{self_state}
use Rattle.patterns.proofs.states.States.len.Goals as goal

pub returns-clause-distinct : goal.returns-clause-distinct
returns-clause-distinct c = subst (λ (t : StateTable). AreDistinct t.keys) c.self.view_is (distinct_from _ self_state _ c.len.ensures.unique)
