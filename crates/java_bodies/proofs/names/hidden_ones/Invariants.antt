use Rattle.std.proofs.Common.{◌≡◌, ◌++◌, drop}
use Rattle.std.specs.List.{flat_map}
use Rattle.java_bodies.specs.Scopes.{hidden_of, last_ones}
use Rattle.java_bodies.proofs.names.hidden_ones.Given as goal

abbrev pub invariant-loop-k : goal.invariant-loop-k
invariant-loop-k l = l.all ++ flat_map hidden_of (last_ones (drop l.k l.variables)) ≡ flat_map hidden_of (last_ones l.variables)
