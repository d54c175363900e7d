use Rattle.std.proofs.Common.{rules, ◌≡◌, ℕ, subst, Contains}
use Rattle.graphs.proofs.Turning.{rooted-free}
use Rattle.graphs.proofs.joined.rooted.Goals as goal

pub loop-node-init : goal.loop-node-init
loop-node-init c = record {
  free = c.in_ok-lent.ensures.free;
  rooted = rooted-free c.args.graph.now c.args.roots.now c.in_ok-marks.marks.items (c.in_ok-marks.ensures.free.1);
}

pub loop-node-preserved : goal.loop-node-preserved
loop-node-preserved c =
    let same : c.deref.result.now ≡ c.in_ok-nodes.nodes.items = search rules in
    let all = λ (b : ℕ) (h : Contains c.deref.result.now b). (c.in_ok-nodes.ensures.exact b).0 (subst (λ l. Contains l b) same h) in
    record {
      free = c.in_ok-nodes.ensures.free;
      rooted = c.mark_rooted.ensures c.args.graph.now all c.loop-node.invariant.rooted;
    }
