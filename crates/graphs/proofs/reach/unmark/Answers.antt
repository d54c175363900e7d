use Rattle.std.proofs.Common.{rules, ◌∙◌, sym}
use Rattle.graphs.proofs.Lists.{unmark_step, unmark_end, unmark_beyond}
use Rattle.graphs.proofs.reach.unmark.Goals as goal

pub loop-node-preserved-then-node-len : goal.loop-node-preserved-then-node-len
loop-node-preserved-then-node-len c = record {
  long = c.loop-node.invariant.long;
  marks = unmark_beyond c.args.nodes.now c.loop-node.node-index c.loop-node.marks.items _ (search rules) c.loop-node.invariant.marks (search rules);
}

pub loop-node-preserved : goal.loop-node-preserved
loop-node-preserved c = record {
  long = search rules;
  marks = unmark_step c.args.nodes.now c.loop-node.node-index c.loop-node.marks.items _ _ (search rules) c.loop-node.invariant.marks (search rules);
}

pub returns-clause-marks : goal.returns-clause-marks
returns-clause-marks c = sym (unmark_end c.args.nodes.now c.loop-node.node-index c.loop-node.marks.items (search rules)) ∙ c.loop-node.invariant.marks
