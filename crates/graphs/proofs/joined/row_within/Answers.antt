use Rattle.std.proofs.Common.{rules, ◌≡◌, []}
use Rattle.graphs.proofs.Elements.{none_in}
use Rattle.graphs.proofs.Turning.{some-more, some-over, some-all}
use Rattle.graphs.proofs.joined.row_within.Goals as goal

pub loop-next-init : goal.loop-next-init
loop-next-init c b h = let none : c.new-kept.result ≡ [] = search rules in none_in b (rw none at h)

pub loop-next-preserved-then-root_of-root : goal.loop-next-preserved-then-root_of-root
loop-next-preserved-then-root_of-root c = some-over c.args.nodes.now c.loop-next.kept c.loop-next.next-index (search rules) c.loop-next.invariant

pub loop-next-preserved : goal.loop-next-preserved
loop-next-preserved c = some-more c.args.nodes.now c.loop-next.kept c.push.new.self c.loop-next.next-index (search rules) c.loop-next.invariant c.in_ok-push.ensures.ok

pub returns : goal.returns
returns c = some-all c.args.nodes.now c.loop-next.kept c.loop-next.next-index (search rules) c.loop-next.invariant
