use Rattle.std.proofs.Common.{sym}
use Rattle.class_pool.proofs.UnitLaws.{more, shorter, all_read, refused}
use Rattle.class_pool.proofs.modified.units_of.Goals as goal

pub loop-rest-preserved : goal.loop-rest-preserved
loop-rest-preserved c = rw c.in_ok-push.ensures.items (more _ _ _ _ _ (sym c.in-Some.ensures) c.loop-rest.invariant)

pub loop-rest-smaller : goal.loop-rest-smaller
loop-rest-smaller c = shorter _ _ _ (sym c.in-Some.ensures)

pub returns-in_default-clause-only : goal.returns-in_default-clause-only
returns-in_default-clause-only c = λ us h. absurd (refused _ _ _ c.loop-rest-test.ensures (sym c.in_default.ensures) c.loop-rest.invariant us h)

pub returns : goal.returns
returns c = let a = all_read _ _ _ c.loop-rest-test.ensures c.loop-rest.invariant in record { found = a.0; only = a.1 }
