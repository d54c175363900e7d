use Rattle.std.proofs.Common.{◌≡◌, take, map}
use Rattle.offers.proofs.names.local_names.Given as goal

abbrev pub invariant-loop-local : goal.invariant-loop-local
invariant-loop-local l = l.names ≡ map (λ v. v.name) (take l.local-index l.locals)
