use Rattle.std.proofs.Common.{rules, ◌≡◌, subst}
use Rattle.graphs.specs.Graph.{InRange}
use Rattle.graphs.specs.Joined.{IsTurned, AreRooted}
use Rattle.graphs.proofs.Turning.{part-range, turned-range, joined-all}
use Rattle.graphs.proofs.joined.join.Goals as goal

pub rooted-requires : goal.rooted-requires
rooted-requires c =
    let same : c.in_ok-inner.inner.items ≡ c.deref-3.result.now = search rules in
    record { range = subst InRange same (part-range c.args.graph.now c.in_ok-inner.inner.items c.in_ok-inner.ensures.long c.requires.range c.in_ok-inner.ensures.part) }

pub rooted-requires-2 : goal.rooted-requires-2
rooted-requires-2 c =
    let same : c.in_ok-back.back.items ≡ c.deref-5.result.now = search rules in
    let inner : c.deref-2.result.now ≡ c.in_ok-inner.inner.items = search rules in
    let back : IsTurned c.in_ok-inner.inner.items c.in_ok-back.back.items = subst (λ g. IsTurned g c.in_ok-back.back.items) inner c.in_ok-back.ensures in
    record { range = subst InRange same (turned-range c.in_ok-inner.inner.items c.in_ok-back.back.items back.long back.part) }

pub returns : goal.returns
returns c =
    let inner : c.deref-2.result.now ≡ c.in_ok-inner.inner.items = search rules in
    let inner_too : c.deref-3.result.now ≡ c.in_ok-inner.inner.items = search rules in
    let back : c.deref-5.result.now ≡ c.in_ok-back.back.items = search rules in
    let roots : c.deref-4.result.now ≡ c.args.roots.items = search rules in
    let roots_too : c.deref-6.result.now ≡ c.args.roots.items = search rules in
    joined-all c.args.graph.now c.in_ok-inner.inner.items c.in_ok-back.back.items c.args.roots.items c.in_ok-below.below.items c.in_ok-above.above.items c.in_ok-inner.ensures.part
    (subst (λ g. IsTurned g c.in_ok-back.back.items) inner c.in_ok-back.ensures)
    (subst (λ g. AreRooted g c.args.roots.items c.in_ok-below.below.items) inner_too (subst (λ rs. AreRooted c.deref-3.result.now rs c.in_ok-below.below.items) roots c.in_ok-below.ensures))
    (subst (λ g. AreRooted g c.args.roots.items c.in_ok-above.above.items) back (subst (λ rs. AreRooted c.deref-5.result.now rs c.in_ok-above.above.items) roots_too c.in_ok-above.ensures))
