use Rattle.std.proofs.Common.{◌<◌, arith}
use Rattle.std.specs.Option.{option_copied}
use Rattle.class_summary.proofs.VariableEnds.{next_here, next_there}
use Rattle.class_summary.proofs.ends.next_of.Goals as goal

pub returns-then-met-eq0 : goal.returns-then-met-eq0
returns-then-met-eq0 c =
    let met = c.in-Some.met in
    next_here c.args.scopes.now c.args.own.now c.args.parts.now met.level met.place met.class (option_copied met.bound) c.in_ok-told_at.field-0 c.if-met-eq0.true c.in-Some.ensures.found c.in-Some.ensures.stands c.requires.own c.in_ok-told_at.ensures

pub returns : goal.returns
returns c =
    let met = c.in-Some.met in
    let told = c.in_ok-told_of.ensures in
    let l : 0 < met.level = omega (arith, c.if-met-eq0.false) in
    next_there c.args.scopes.now c.args.own.now c.args.tables.now c.args.parts.now met.level met.place met.class (option_copied met.bound) told.0 c.in_ok-told_of.field-0 l c.in-Some.ensures.found c.in-Some.ensures.stands c.requires.outside told.1 told.2
