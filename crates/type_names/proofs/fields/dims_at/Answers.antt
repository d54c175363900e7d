use Rattle.std.proofs.Common.{sym, arith}
use Rattle.type_names.proofs.TextLaws.{bracket_more, bracket_long, bracket_end, utf8_rest, past_some}
use Rattle.type_names.proofs.fields.dims_at.Goals as goal

pub returns-in_default : goal.returns-in_default
returns-in_default c = bracket_end c.loop-next.dims c.loop-next.rest.now _ (sym c.in_default.ensures) c.loop-next.invariant.2

pub loop-next-preserved : goal.loop-next-preserved
loop-next-preserved c =
    let i = c.loop-next.invariant in
    let e = past_some 91 c.loop-next.rest.now c.in-Some.next.now (sym c.in-Some.ensures) in
    (utf8_rest 91 c.loop-next.rest.now c.in-Some.next.now (omega arith) i.0 e, omega (arith, i.1, bracket_long c.loop-next.rest.now c.in-Some.next.now (sym c.in-Some.ensures)), bracket_more c.loop-next.dims c.loop-next.rest.now c.in-Some.next.now _ (sym c.in-Some.ensures) i.2)
