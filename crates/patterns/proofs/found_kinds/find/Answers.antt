use Rattle.std.proofs.Common.{◌∙◌}
use Rattle.number_places.proofs.NumberPlaces.{length-mapped}
use Rattle.patterns.proofs.Ranges.{range-first}
use Rattle.patterns.proofs.found_kinds.find.Goals as goal

pub returns-clause-found : goal.returns-clause-found
returns-clause-found c = record {
  distinct_states = c.in_ok-lists.ensures.distinct;
  first = c.explore.ensures.grown 0 _ c.in_ok-states.ensures.first;
  closed = c.in_ok-explore.ensures.open;
  as_many = length-mapped (λ v. v.items) _ ∙ c.in_ok-lists.ensures.as_many;
  each = c.in_ok-lists.ensures.each;
}

pub returns-clause-in_range : goal.returns-clause-in_range
returns-clause-in_range c some sets = c.in_ok-explore.ensures.in_range sets (range-first c.args.sets.now _ _ some c.in_ok-states.ensures.only)
