use Rattle.std.proofs.Common.{rules, inr, refl, None, Some}
use Rattle.sessions.proofs.Filing.{may_bytes, may_missing, may_long, fault_long, long_held, may_any, any_held}
use Rattle.sessions.proofs.loading.load_file.Goals as goal

pub returns-in-Bytes-clause-found : goal.returns-in-Bytes-clause-found
returns-in-Bytes-clause-found g c =
    let holds = (g.W.World.state c.args.world.now).holds in
    (Some c.load.new.out.items, may_bytes holds c.args.name.now c.in_ok-load.field-0 c.load.new.out.items c.in-Bytes.is c.in_ok-load.ensures.answer, refl)

pub returns-in-Missing-clause-found : goal.returns-in-Missing-clause-found
returns-in-Missing-clause-found g c =
    let holds = (g.W.World.state c.args.world.now).holds in
    (None, may_missing holds c.args.name.now c.in_ok-load.field-0 c.load.new.out.items c.in-Missing.is c.in_ok-load.ensures.answer, inr refl)

pub returns-in-TooLong-clause-found : goal.returns-in-TooLong-clause-found
returns-in-TooLong-clause-found g c =
    let holds = (g.W.World.state c.args.world.now).holds in
    let n = c.in-TooLong.field-0 in
    let bound = rw (c.in-TooLong.is) at c.in_ok-load.ensures.bound in
    (long_held holds c.args.name.now n, may_long holds c.args.name.now n, inr (fault_long holds c.args.name.now c.in_ok-load.field-0 c.load.new.out.items c.args.index n c.in-TooLong.is bound.1 c.in_ok-load.ensures.answer))

pub returns-in_err-load-clause-found : goal.returns-in_err-load-clause-found
returns-in_err-load-clause-found g c =
    let holds = (g.W.World.state c.args.world.now).holds in
    (any_held holds c.args.name.now, may_any holds c.args.name.now, search rules)
