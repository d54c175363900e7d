use Rattle.std.proofs.Common.{arith}
use Rattle.json_rpc.proofs.Inputs.{follows-more, follows-end}
use Rattle.json_rpc.proofs.Takes.{far-more, took-far, took-end, took-fail}
use Rattle.json_rpc.proofs.whole.read_frames.Goals as goal

pub returns-in-Ok-None : goal.returns-in-Ok-None
returns-in-Ok-None g c =
    let e = rw (c.in-Ok-None.field-0-is) at c.in-Ok-None.ensures.frame c.loop.invariant.fault in
    record { whole_input = follows-end _ _ _ _ _ _ c.loop.invariant.follows e; taken = took-end _ _ _ _ _ c.loop.invariant.far c.next.ensures.bound e; later = omega (arith, c.loop.invariant.later, c.next.ensures.later); cause = λ h. cc }

pub loop-preserved : goal.loop-preserved
loop-preserved g c =
    let e = rw (c.in-Ok-Some.field-0-is) at c.in-Ok-Some.ensures.frame c.loop.invariant.fault in
    let f = follows-more _ _ _ _ _ _ _ c.loop.invariant.follows c.next.ensures.bound e in
    record {
      fault = e.fault;
      follows = rw (c.keep.ensures.kept cc) f;
      far = far-more _ _ _ _ _ _ c.loop.invariant.far e;
      within = c.next.ensures.bound;
      later = omega (arith, c.loop.invariant.later, c.next.ensures.later);
    }

pub returns-then-not-keep-clause-taken : goal.returns-then-not-keep-clause-taken
returns-then-not-keep-clause-taken g c =
    let e = rw (c.in-Ok-Some.field-0-is) at c.in-Ok-Some.ensures.frame c.loop.invariant.fault in
    took-far _ _ _ (far-more _ _ _ _ _ _ c.loop.invariant.far e) c.next.ensures.bound

pub returns-in-Err-clause-taken : goal.returns-in-Err-clause-taken
returns-in-Err-clause-taken g c =
    let e = c.in-Err.ensures.frame c.loop.invariant.fault in
    took-fail _ _ _ _ _ c.in-Err.fault c.loop.invariant.far c.next.ensures.bound e
