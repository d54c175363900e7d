use Rattle.std.proofs.Common.{◌≡◌, take, map}
use Rattle.std.specs.BTreeSet.{keys}
use Rattle.terms.proofs.above.rows_of.Given as goal

abbrev pub invariant-loop-set : goal.invariant-loop-set
invariant-loop-set l = l.rows ≡ map keys (take l.set-index l.sets)
