use Rattle.std.proofs.Common.{arith, length}
use Rattle.class_summary.proofs.VariableEnds.{closed_none, closed_on, closed_end}
use Rattle.class_summary.proofs.ends.open_place.Goals as goal

pub loop-place-init : goal.loop-place-init
loop-place-init c = closed_none c.args.scopes.now c.args.own.now

pub loop-place-preserved : goal.loop-place-preserved
loop-place-preserved c = closed_on c.args.scopes.now c.args.own.now c.loop-place.place (c.in_ok-is_open.ensures c.if-branch.false) c.loop-place.invariant

pub returns : goal.returns
returns c = λ e. closed_end c.args.scopes.now c.args.own.now c.loop-place.place (length c.args.own.now) (omega (arith, c.loop-place-test.false)) c.loop-place.invariant
