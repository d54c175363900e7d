use Rattle.std.proofs.Common.{rules, arith, ap, sym, ◌≡◌, ◌∙◌, ◌++◌, length, []}
use Rattle.java_units.specs.Signs.{seen}
use Rattle.java_units.proofs.Walks.{seen-length}
use Rattle.java_bodies.specs.Bodies.{BodySigns}
use Rattle.java_bodies.specs.Openers.{gathered}
use Rattle.java_bodies.specs.Variables.{inside, resource_at, try_header}
use Rattle.java_bodies.proofs.Walks.{gathered_none, gathered_on}
use Rattle.java_bodies.proofs.headers.try_header.Goals as goal

pub loop-k-init : goal.loop-k-init
loop-k-init c = let e : c.new-all.result ≡ [] = search rules in e ∙ sym (gathered_none (resource_at (seen c.args.header.now)))

pub loop-k-preserved : goal.loop-k-preserved
loop-k-preserved c =
    let f = resource_at (seen c.args.header.now) in
    c.in_ok-append.ensures ∙ ap (λ xs. c.loop-k.all ++ xs) c.in_ok-more.ensures ∙ ap (λ xs. xs ++ f c.loop-k.k) c.loop-k.invariant ∙ sym (gathered_on f c.loop-k.k)

pub returns : goal.returns
unfolding try_header
returns c =
    let ss = seen c.args.header.now in
    let ls = c.before-k-end.result.now in
    let a : c.loop-k.k ≡ length ls = omega (arith, c.loop-k-test.false, c.loop-k.auto.k-end) in
    let b : seen ls ≡ inside ss = c.before-k-end.ensures ∙ ap (λ (x : BodySigns). x.before) c.in_ok-inside.ensures in
    c.loop-k.invariant ∙ ap (gathered (resource_at ss)) (a ∙ sym (seen-length ls) ∙ ap length b)
