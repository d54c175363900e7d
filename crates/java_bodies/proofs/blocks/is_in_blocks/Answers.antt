use Rattle.std.proofs.Common.{arith, ap, sym, ◌≡◌, ◌∙◌, ◌<◌, length}
use Rattle.java_units.proofs.Walks.{seen-length}
use Rattle.java_bodies.specs.Blocks.{is_allowed_at, all_below, is_in_blocks}
use Rattle.java_bodies.proofs.Loops.{all_none, all_on, all_stop}
use Rattle.java_bodies.proofs.blocks.is_in_blocks.Goals as goal

pub loop-k-init : goal.loop-k-init
loop-k-init c = all_none (is_allowed_at c.args.body.now.before)

pub is_allowed_at-requires : goal.is_allowed_at-requires
is_allowed_at-requires c = omega (arith, c.loop-k-test.true, seen-length c.before-k-end.result.now, ap length c.before-k-end.ensures)

pub returns-then-not-is_allowed_at : goal.returns-then-not-is_allowed_at
unfolding is_in_blocks
returns-then-not-is_allowed_at c =
    let ss = c.args.body.now.before in
    let l : c.loop-k.k < length ss = omega (arith, c.loop-k-test.true, seen-length c.before-k-end.result.now, ap length c.before-k-end.ensures) in
    all_stop (is_allowed_at ss) c.loop-k.k (length ss) l (sym c.is_allowed_at.ensures ∙ c.if-not-is_allowed_at.true)

pub loop-k-preserved : goal.loop-k-preserved
loop-k-preserved c = all_on (is_allowed_at c.args.body.now.before) c.loop-k.k (sym c.is_allowed_at.ensures ∙ c.if-not-is_allowed_at.false) c.loop-k.invariant

pub returns : goal.returns
unfolding is_in_blocks
returns c =
    let ss = c.args.body.now.before in
    let e : c.loop-k.k ≡ length ss = omega (arith, c.loop-k-test.false, c.loop-k.auto.k-end, seen-length c.before-k-end.result.now, ap length c.before-k-end.ensures) in
    sym c.loop-k.invariant ∙ ap (all_below (is_allowed_at ss)) e
