use Rattle.std.proofs.Common.{◌≡◌, drop}
use Rattle.java_bodies.specs.Wanted.{local_kind}
use Rattle.java_bodies.proofs.wanted.local_kind.Given as goal

abbrev pub invariant-loop-i : goal.invariant-loop-i
invariant-loop-i l = local_kind l.name l.locals l.fields ≡ local_kind l.name (drop l.i l.locals) l.fields
