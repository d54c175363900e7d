use Rattle.std.proofs.Common.{◌≡◌, drop, find}
use Rattle.java_bodies.specs.Places.{touches}
use Rattle.java_bodies.proofs.places.touched.Given as goal

abbrev pub invariant-loop-i : goal.invariant-loop-i
invariant-loop-i l = find (touches l.place) l.tokens ≡ find (touches l.place) (drop l.i l.tokens)
