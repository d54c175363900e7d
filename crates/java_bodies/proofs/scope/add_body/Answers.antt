use Rattle.std.proofs.Common.{arith, ap, sym, ◌≡◌, ◌∙◌, ◌++◌, length, append_assoc, append-nil}
use Rattle.java_units.proofs.Walks.{seen-length}
use Rattle.java_bodies.specs.Openers.{gathered}
use Rattle.java_bodies.specs.Scopes.{added_at}
use Rattle.java_bodies.proofs.Walks.{gathered_none, gathered_on}
use Rattle.java_bodies.proofs.scope.add_body.Goals as goal

pub loop-k-init : goal.loop-k-init
loop-k-init c = sym (ap (λ xs. c.args.all.now ++ xs) (gathered_none (added_at c.args.body.now)) ∙ append-nil c.args.all.now)

pub add_at-requires : goal.add_at-requires
add_at-requires c = omega (arith, c.loop-k-test.true, seen-length c.before-k-end.result.now, ap length c.before-k-end.ensures)

pub loop-k-preserved : goal.loop-k-preserved
loop-k-preserved c =
    let f = added_at c.args.body.now in
    c.in_ok-add_at.ensures ∙ ap (λ xs. xs ++ f c.loop-k.k) c.loop-k.invariant ∙ append_assoc c.args.all.now (gathered f c.loop-k.k) (f c.loop-k.k) ∙ ap (λ xs. c.args.all.now ++ xs) (sym (gathered_on f c.loop-k.k))

pub returns : goal.returns
returns c =
    let e : c.loop-k.k ≡ length c.args.body.now.before = omega (arith, c.loop-k-test.false, c.loop-k.auto.k-end, seen-length c.before-k-end.result.now, ap length c.before-k-end.ensures) in
    c.loop-k.invariant ∙ ap (λ n. c.args.all.now ++ gathered (added_at c.args.body.now) n) e
