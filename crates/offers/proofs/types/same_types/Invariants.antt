use Rattle.std.proofs.Common.{◌≡◌, drop}
use Rattle.offers.specs.Omissions.{same_types}
use Rattle.offers.proofs.types.same_types.Given as goal

abbrev pub invariant-loop-i : goal.invariant-loop-i
invariant-loop-i l = same_types l.a l.b ≡ same_types (drop l.i l.a) (drop l.i l.b)
