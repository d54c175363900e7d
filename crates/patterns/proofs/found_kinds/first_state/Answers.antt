use Rattle.patterns.proofs.Ranges.{first-listed, only-listed}
use Rattle.patterns.proofs.found_kinds.first_state.Goals as goal

pub returns-clause-first : goal.returns-clause-first
returns-clause-first c = first-listed c.list.new.self.keys _ c.in_ok-list.ensures.listed (only-listed _ c.list.new.self.keys _ c.new-states.ensures.empty c.in_ok-list.ensures.only)

pub returns-clause-only : goal.returns-clause-only
returns-clause-only c = only-listed _ c.list.new.self.keys _ c.new-states.ensures.empty c.in_ok-list.ensures.only
