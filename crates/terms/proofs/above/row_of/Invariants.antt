use Rattle.std.proofs.Common.{◌≡◌, ◌++◌}
use Rattle.terms.proofs.above.row_of.Given as goal

abbrev pub invariant-loop-upper : goal.invariant-loop-upper
invariant-loop-upper l = l.row ++ l.upper-iterator ≡ l.set.keys
