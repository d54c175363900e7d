use Rattle.std.proofs.Common.{take, Contains}
use Rattle.decl_index.proofs.cycle_search.is_one_of.Given as goal

abbrev pub invariant-loop-one : goal.invariant-loop-one
invariant-loop-one l = Contains (take l.one-index l.names) l.name → ⊥
