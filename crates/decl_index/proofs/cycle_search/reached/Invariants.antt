use Rattle.decl_index.proofs.Searches.{IsFollowed}
use Rattle.decl_index.proofs.cycle_search.reached.Given as goal

abbrev pub invariant-loop-next : goal.invariant-loop-next
invariant-loop-next l = IsFollowed l.classes l.from l.next l.found
