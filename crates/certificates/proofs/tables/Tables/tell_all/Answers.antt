use Rattle.std.proofs.Common.{sym, ◌∙◌}
use Rattle.succinct.proofs.Needs.{grown-trans}
use Rattle.certificates.proofs.Steps.{before-more, before-all, has-get}
use Rattle.certificates.proofs.tables.Tables.tell_all.Goals as goal

pub tell_state-requires-clause-in_range : goal.tell_state-requires-clause-in_range
tell_state-requires-clause-in_range c = c.as_slice-states.ensures.in_range c.in-Some.state (has-get c.loop-place.told.states c.loop-place.place c.in-Some.state (sym c.in-Some.ensures.value))

pub returns-in-None-clause-told : goal.returns-in-None-clause-told
returns-in-None-clause-told c = before-all c.args.env.now c.args.self.now.compressed c.args.self.now.patterns c.args.self.now.least c.loop-place.told.states c.loop-place.place c.in-None.ensures.value c.loop-place.invariant.told

pub loop-place-preserved : goal.loop-place-preserved
loop-place-preserved c = record {
  later = record {
    as_many = c.in_ok-tell_state-in-Some.ensures.later.as_many ∙ c.loop-place.invariant.later.as_many;
    grown = grown-trans c.args.told.now.states c.loop-place.told.states c.tell_state.new.told.states c.loop-place.invariant.later.grown c.in_ok-tell_state-in-Some.ensures.later.grown;
  };
  told = before-more c.args.env.now c.args.self.now.compressed c.args.self.now.patterns c.args.self.now.least c.loop-place.told.states c.tell_state.new.told.states c.loop-place.place c.in-Some.state c.in-Some.ensures.value c.in_ok-tell_state-in-Some.ensures.later.grown c.loop-place.invariant.told c.in_ok-tell_state-in-Some.ensures.told;
}
