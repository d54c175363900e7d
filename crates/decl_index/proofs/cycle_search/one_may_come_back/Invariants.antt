use Rattle.decl_index.specs.Changed.{AvoidsItself}
use Rattle.decl_index.proofs.Searches.{EachBelow}
use Rattle.decl_index.proofs.cycle_search.one_may_come_back.Given as goal

abbrev pub invariant-loop-class : goal.invariant-loop-class
invariant-loop-class l = EachBelow (λ c. AvoidsItself l.classes c.name) l.class-index l.puts
