use Rattle.std.proofs.Common.{◌≡◌, ◌++◌}
use Rattle.java_bodies.specs.Openers.{gathered}
use Rattle.java_bodies.specs.Scopes.{added_at}
use Rattle.java_bodies.proofs.scope.add_body.Given as goal

abbrev pub invariant-loop-k : goal.invariant-loop-k
invariant-loop-k l = l.all ≡ l.initial.all ++ gathered (added_at l.body) l.k
