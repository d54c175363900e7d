use Rattle.std.proofs.Common.{rules}
use Rattle.class_shape.specs.Meaning.{index_name}
use Rattle.class_shape.proofs.Loops.{each_more, each_ends, each_done}
use Rattle.class_shape.proofs.resolved_lists.class_names.Goals as goal

pub returns-in_err-name : goal.returns-in_err-name
returns-in_err-name c = search (rules, each_ends (index_name c.args.pool.now.entries) c.loop-i.i _ c.loop-i.names c.args.indices.now c.in_err-name.field-0.0 c.loop-i-test.true c.in_err-name.ensures c.loop-i.invariant)

pub loop-i-preserved : goal.loop-i-preserved
loop-i-preserved c = rw c.in_ok-push.ensures.ok (each_more (index_name c.args.pool.now.entries) c.loop-i.i _ c.loop-i.names c.args.indices.now _ c.loop-i-test.true c.in_ok-name.ensures c.loop-i.invariant)

pub returns : goal.returns
returns c = each_done (index_name c.args.pool.now.entries) c.loop-i.i c.loop-i.names c.args.indices.now c.loop-i-test.false c.loop-i.invariant
