use Rattle.code_walk.proofs.WalkLaws.{turn}
use Rattle.code_walk.proofs.walk.walk.Goals as goal

pub loop-rest-smaller : goal.loop-rest-smaller
loop-rest-smaller c =
    let t = turn c.args.start c.args.code.now _ c.loop-rest.rest.now c.in-Ok.len c.loop-rest.invariant.stand c.in-Ok.ensures.measured in
    rw c.bytes_after-rest.ensures t.smaller

pub loop-rest-preserved : goal.loop-rest-preserved
loop-rest-preserved c =
    let t = turn c.args.start c.args.code.now _ c.loop-rest.rest.now c.in-Ok.len c.loop-rest.invariant.stand c.in-Ok.ensures.measured in
    record { within = rw c.bytes_after-rest.ensures t.within; stand = rw (c.bytes_after-rest.ensures, c.in_ok-push.ensures.items) t.stand }
