use Rattle.std.proofs.Common.{arith, ◌≢◌}
use Rattle.std.proofs.lemmas.Result.{err_from_is_err_and}
use Rattle.code_walk.specs.declared.fault.WalkCause.TheVariants.{OutOfMemory}
use Rattle.usage_counts.proofs.UseLaws.{place-here}
use Rattle.usage_counts.proofs.code_members.add_members.Goals as goal

pub returns-in_err-member-clause-first : goal.returns-in_err-member-clause-first
returns-in_err-member-clause-first c =
    let p = err_from_is_err_and c.from_residual.result c.from_residual.ensures.1 in
    let fault = c.in_err-member.field-0.0 in
    rw (p.1, p.2) (λ (h : fault.cause ≢ OutOfMemory). place-here c.args.pool.now.entries c.args.bytes.now c.args.list.now c.loop-i.i-index _ fault (omega arith) c.loop-i.invariant.named c.in_err-member.ensures.unnamed c.in_err-member.ensures.place)
