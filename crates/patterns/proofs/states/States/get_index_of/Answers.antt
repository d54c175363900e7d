use Rattle.std.proofs.Common.{sym}
use Rattle.std.proofs.lemmas.Option.{slice_get_within}
use Rattle.patterns.proofs.Mets.{state_place-is}
use Rattle.patterns.proofs.states.States.get_index_of.Goals as goal

pub returns-in-Some-clause-index : goal.returns-in-Some-clause-index
returns-in-Some-clause-index c = sym (state_place-is c.args.self.now.keys c.args.state c.in-Some.place c.len.ensures.distinct c.in-Some.ensures.is)

pub returns-in-Some-clause-within : goal.returns-in-Some-clause-within
returns-in-Some-clause-within c = slice_get_within c.args.self.now.keys c.in-Some.place c.args.state c.in-Some.ensures.is
