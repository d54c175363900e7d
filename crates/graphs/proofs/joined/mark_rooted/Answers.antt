use Rattle.std.proofs.lemmas.List.Elements.{Contains-get_or}
use Rattle.std.proofs.Common.{rules, ◌≡◌, get_or}
use Rattle.graphs.specs.Joined.{root_of}
use Rattle.graphs.proofs.Turning.{rooted-set}
use Rattle.graphs.proofs.joined.mark_rooted.Goals as goal

pub loop-node-preserved : goal.loop-node-preserved
loop-node-preserved c graph all old =
    let same : root_of c.args.roots.now (get_or c.args.nodes.now c.loop-node.node-index 0) ≡ c.args.root = search rules in
    rooted-set graph c.args.roots.now c.loop-node.marks.items (get_or c.args.nodes.now c.loop-node.node-index 0) c.args.root same (all _ (Contains-get_or c.args.nodes.now c.loop-node.node-index 0 (search rules))) (c.loop-node.invariant graph all old)
