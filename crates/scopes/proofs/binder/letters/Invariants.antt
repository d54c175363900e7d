use Rattle.std.proofs.Common.{◌≡◌, replicate}
use Rattle.scopes.proofs.binder.letters.Given as goal

abbrev pub invariant-loop-k : goal.invariant-loop-k
invariant-loop-k l = l.text ≡ replicate l._k 112
