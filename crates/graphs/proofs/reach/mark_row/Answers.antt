use Rattle.std.proofs.lemmas.List.Elements.{Contains-get_or}
use Rattle.std.proofs.Common.{rules, ◌∙◌, sym}
use Rattle.graphs.proofs.Marks.{row_step, row_end}
use Rattle.graphs.proofs.reach.mark_row.Goals as goal

pub mark-requires : goal.mark-requires
mark-requires c = rw c.loop-node.invariant.long (c.requires _ (Contains-get_or c.args.nodes.now c.loop-node.node-index 0 (search rules)))

pub loop-node-preserved : goal.loop-node-preserved
loop-node-preserved c = record {
  work = row_step c.args.nodes.now c.loop-node.node-index _ _ _ (search rules) c.loop-node.invariant.work c.in_ok-mark.ensures.work;
  long = c.in_ok-mark.ensures.long ∙ c.loop-node.invariant.long;
  listed = λ h. c.in_ok-mark.ensures.listed (c.loop-node.invariant.listed h);
}

pub returns-clause-work : goal.returns-clause-work
returns-clause-work c = sym (row_end c.args.nodes.now c.loop-node.node-index _ (search rules)) ∙ c.loop-node.invariant.work

pub returns-in_err-mark-clause-listed : goal.returns-in_err-mark-clause-listed
returns-in_err-mark-clause-listed c = λ h. c.in_err-mark.ensures.listed (c.loop-node.invariant.listed h)
