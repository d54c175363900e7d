use Rattle.decl_index.specs.Changed.{KeepsNesting}
use Rattle.decl_index.proofs.Searches.{EachBelow}
use Rattle.decl_index.proofs.nesting.all_keep_nesting.Given as goal

abbrev pub invariant-loop-class : goal.invariant-loop-class
invariant-loop-class l = EachBelow (KeepsNesting l.classes) l.class-index l.puts
