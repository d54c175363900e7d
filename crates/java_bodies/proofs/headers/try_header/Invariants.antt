use Rattle.std.proofs.Common.{◌≡◌}
use Rattle.java_units.specs.Signs.{seen}
use Rattle.java_bodies.specs.Openers.{gathered}
use Rattle.java_bodies.specs.Variables.{resource_at}
use Rattle.java_bodies.proofs.headers.try_header.Given as goal

abbrev pub invariant-loop-k : goal.invariant-loop-k
invariant-loop-k l = l.all ≡ gathered (resource_at (seen l.header)) l.k
