use Rattle.std.proofs.Common.{length}
use Rattle.class_pool.proofs.UnitLaws.{Reads}
use Rattle.class_pool.proofs.modified.units_of.Given as goal

abbrev pub invariant-loop-rest : goal.invariant-loop-rest
invariant-loop-rest l = Reads l.bytes l.units.items l.rest

abbrev pub decreases-loop-rest : goal.decreases-loop-rest
decreases-loop-rest l = length l.rest
