use Rattle.std.proofs.Common.{take}
use Rattle.decl_index.specs.Changed.{Meets}
use Rattle.decl_index.proofs.cycle_search.meet.Given as goal

abbrev pub invariant-loop-name : goal.invariant-loop-name
invariant-loop-name l = Meets (take l.name-index l.names) l.fn.found l.found
