use Rattle.std.proofs.Common.{rules}
use Rattle.class_shape.specs.Meaning.{member_shape}
use Rattle.class_shape.proofs.Loops.{each_more, each_ends, each_done}
use Rattle.class_shape.proofs.resolved_lists.member_shapes.Goals as goal

pub returns-in_err-shape : goal.returns-in_err-shape
returns-in_err-shape c = search (rules, each_ends (member_shape c.args.pool.now.entries c.args.kind) c.loop-i.i _ c.loop-i.shapes c.args.members.now c.in_err-shape.field-0.0 c.loop-i-test.true c.in_err-shape.ensures c.loop-i.invariant)

pub loop-i-preserved : goal.loop-i-preserved
loop-i-preserved c = rw c.in_ok-push.ensures.ok (each_more (member_shape c.args.pool.now.entries c.args.kind) c.loop-i.i _ c.loop-i.shapes c.args.members.now _ c.loop-i-test.true c.in_ok-shape.ensures c.loop-i.invariant)

pub returns : goal.returns
returns c = each_done (member_shape c.args.pool.now.entries c.args.kind) c.loop-i.i c.loop-i.shapes c.args.members.now c.loop-i-test.false c.loop-i.invariant
