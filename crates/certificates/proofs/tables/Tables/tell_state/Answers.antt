use Rattle.std.proofs.Common.{◌≡◌, ◌-◌, arith}
use Rattle.terms.specs.Weights.{coercion_weight}
use Rattle.certificates.specs.Told.{number_of}
use Rattle.certificates.proofs.Steps.{state-told}
use Rattle.certificates.proofs.tables.Tables.tell_state.Goals as goal

pub returns-clause-told : goal.returns-clause-told
returns-clause-told c =
    let below : c.saturating_sub-below.result ≡ number_of c.args.env.now c.args.self.now.least c.args.state - coercion_weight c.args.env.now = omega (arith, c.saturating_sub-below.ensures, c.number_of-floor.ensures.value, c.coercion_weight.ensures.value) in
    state-told c.args.env.now c.args.self.now.compressed c.args.self.now.patterns c.args.self.now.least c.args.state c.number_of-floor.result c.goal_of-goal.result c.saturating_sub-below.result c.tell_type.new.told.states c.tell_lowers.new.told.states
    c.number_of-floor.ensures.value below c.goal_of-goal.ensures.value c.in_ok-tell_lowers.ensures.later.grown c.in_ok-tell_type.ensures.told c.in_ok-tell_lowers.ensures.told
