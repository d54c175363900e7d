use Rattle.std.proofs.Common.{arith}
use Rattle.workload.proofs.PlanLaws.{any_at, fault_is}
use Rattle.workload.proofs.pool.put_entries.Goals as goal

pub returns-in_err-put_entry-clause-big : goal.returns-in_err-put_entry-clause-big
returns-in_err-put_entry-clause-big c = fault_is _ _ _ c.from_residual.ensures.1 (λ e. any_at c.args.needs.now c.loop-i.i _ (omega arith) (c.in_err-put_entry.ensures.big e))
