use Rattle.std.proofs.Common.{rules, arith}
use Rattle.std.proofs.lemmas.Result.{err_from_is_err_and}
use Rattle.class_pool.proofs.Steps.{skip_step, is_passed, entry_step, entry_ends, is_done}
use Rattle.class_pool.proofs.reading.index_entries.Goals as goal

pub loop-place-init : goal.loop-place-init
loop-place-init c = record { within = c.requires; fits = λ i. omega (arith, c.type_inv.bytes i); so_far = search rules }

pub loop-place-preserved-then-skip : goal.loop-place-preserved-then-skip
loop-place-preserved-then-skip c =
    let i = c.loop-place.invariant in
    record { within = i.within; fits = i.fits; so_far = skip_step _ c.args.count c.loop-place.place _ _ _ _ c.loop-place-test.true (rw c.if-skip.true at i.so_far) }

pub returns-in_err-wide : goal.returns-in_err-wide
returns-in_err-wide c =
    let i = c.loop-place.invariant in
    let p = err_from_is_err_and c.from_residual-in_err-wide.result c.from_residual-in_err-wide.ensures.1 in
    let e = entry_ends c.args.total c.args.count c.loop-place.place c.loop-place.starts.items c.loop-place.rest.now c.in_err-wide.field-0.0 _ c.loop-place-test.true c.in_err-wide.ensures (rw c.if-skip.false at i.so_far) in
    rw (p.1, p.2) (record { long = tt; exact = e })

pub loop-place-preserved : goal.loop-place-preserved
loop-place-preserved c =
    let i = c.loop-place.invariant in
    let p = is_passed _ _ _ _ _ i.fits c.in_ok-wide.ensures in
    let s = entry_step c.args.total c.args.count c.loop-place.place c.loop-place.starts.items c.loop-place.rest.now _ _ _ c.loop-place-test.true i.within p (rw c.if-skip.false at i.so_far) in
    record { within = omega (arith, i.within, p.long); fits = p.fits; so_far = rw c.in_ok-push_start.ensures s }

pub returns-clause-exact : goal.returns-clause-exact
returns-clause-exact c = is_done _ _ _ _ _ _ _ _ c.loop-place-test.false c.loop-place.invariant.so_far
