use Rattle.std.proofs.Common.{rules}
use Rattle.subtyping.proofs.Searching.{rows-none, rows-more, rows-all}
use Rattle.subtyping.proofs.supers.rows_above.Goals as goal

pub loop-node-init : goal.loop-node-init
loop-node-init c = record { rows = rows-none c.args.graph.now c.new-rows.result c.new-rows.ensures; free = search rules }

pub loop-node-preserved : goal.loop-node-preserved
loop-node-preserved c = record {
  rows = rows-more c.args.graph.now c.loop-node.rows c.push.new.self c.in_ok-row_above.field-0 c.loop-node.node c.in_ok-push.ensures.ok c.loop-node.invariant.rows c.in_ok-row_above.ensures.exact c.in_ok-row_above.ensures.rises;
  free = search rules;
}

pub returns : goal.returns
returns c = rows-all c.args.graph.now c.loop-node.rows c.loop-node.node (search rules) c.loop-node.invariant.rows (search rules)
