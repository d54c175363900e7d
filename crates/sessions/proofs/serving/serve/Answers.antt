use Rattle.sessions.proofs.Finishing.{at_end, at_fault, at_count, finishes}
use Rattle.sessions.proofs.serving.serve.Goals as goal

pub returns-in-Ok-None-clause-serves : goal.returns-in-Ok-None-clause-serves
returns-in-Ok-None-clause-serves g c =
    let ends = rw (c.in-Ok-None.field-0-is) at c.in-Ok-None.ensures.frame c.loop.invariant.reading.going_on in
    at_end _ _ _ _ _ _ _ _ _ _ _ c.loop.invariant.reading ends

pub returns-in-Err-clause-serves : goal.returns-in-Err-clause-serves
returns-in-Err-clause-serves g c =
    at_fault _ _ _ _ _ _ _ _ _ _ _ _ c.loop.invariant.reading c.next.ensures.bound (c.in-Err.ensures.frame c.loop.invariant.reading.going_on)

pub returns-in-Some-clause-serves : goal.returns-in-Some-clause-serves
returns-in-Some-clause-serves g c =
    let gives = rw (c.in-Ok-Some.field-0-is) at c.in-Ok-Some.ensures.frame c.loop.invariant.reading.going_on in
    let answers = c.in-Some.ensures.answers in
    finishes _ c.loop.session _ _ _ _ _ (g.K.Sink.written c.loop.sink) _ _ _ _ (g.W.World.state c.loop.world) _ c.in-Ok-Some.body.items _ c.loop.invariant.reading c.next.ensures.bound gives (rw c.deref.ensures.value at answers)

pub returns-clause-serves : goal.returns-clause-serves
returns-clause-serves g c = at_count _ _ _ _ _ _ _ _ _ c.loop.invariant.reading
