use Rattle.std.proofs.Common.{◌≡◌, ◌++◌, map, take}
use Rattle.offers.specs.Candidates.{method_of}
use Rattle.offers.proofs.candidates.add_methods.Given as goal

abbrev pub invariant-loop-method : goal.invariant-loop-method
invariant-loop-method l = l.all.items ≡ l.initial.all.items ++ map (method_of l.class) (take l.method-index l.method-items)
