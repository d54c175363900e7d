use Rattle.std.proofs.Common.{rules, arith, ◌<◌, ◌≢◌}
use Rattle.subtyping.specs.Widening.{rank}
use Rattle.subtyping.proofs.Widenings.{wider-rank, rank-wider}
use Rattle.subtyping.proofs.widening.widens.Goals as goal

pub returns-then-high-lt-BOOLEAN-clause-sound : goal.returns-then-high-lt-BOOLEAN-clause-sound
returns-then-high-lt-BOOLEAN-clause-sound c h =
    let low : rank c.args.from.now < rank c.args.to.now = search rules in
    let high : rank c.args.to.now < 7 = search rules in
    let other : rank c.args.to.now ≢ 2 = grind arith in
    rank-wider c.args.from.now c.args.to.now low high other

pub returns-then-high-lt-BOOLEAN-clause-complete : goal.returns-then-high-lt-BOOLEAN-clause-complete
returns-then-high-lt-BOOLEAN-clause-complete c h =
    let r = wider-rank c.args.from.now c.args.to.now h in
    let other : rank c.args.to.now ≢ 2 = r.2 in
    grind arith

pub returns-else-high-lt-BOOLEAN-clause-complete : goal.returns-else-high-lt-BOOLEAN-clause-complete
returns-else-high-lt-BOOLEAN-clause-complete c h =
    let r = wider-rank c.args.from.now c.args.to.now h in
    let low : rank c.args.from.now < rank c.args.to.now = r.0 in
    let high : rank c.args.to.now < 7 = r.1 in
    grind arith
