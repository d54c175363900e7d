use Rattle.std.proofs.Common.{◌≡◌, drop}
use Rattle.java_bodies.specs.Wanted.{field_kind}
use Rattle.java_bodies.proofs.wanted.field_kind.Given as goal

abbrev pub invariant-loop-i : goal.invariant-loop-i
invariant-loop-i l = field_kind l.name l.fields ≡ field_kind l.name (drop l.i l.fields)
