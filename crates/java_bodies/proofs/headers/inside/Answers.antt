use Rattle.std.proofs.Common.{arith, ap, subst, ◌≡◌, ◌∙◌, ◌≤◌, ◌-◌, length, take, take_all, IfOk, List}
use Rattle.std.proofs.lemmas.List.{length-take}
use Rattle.java_units.specs.Signs.{Sign, seen}
use Rattle.java_units.proofs.Walks.{seen-length}
use Rattle.java_bodies.specs.Bodies.{BodySigns}
use Rattle.java_bodies.specs.Variables.{inside}
use Rattle.java_bodies.proofs.headers.inside.Goals as goal

pub returns : goal.returns
unfolding inside
returns c =
    let ss = seen c.args.header.now in
    let len = c.saturating_sub-len.result in
    let n : len ≡ length ss - 1 = omega (arith, c.saturating_sub-len.ensures, seen-length c.args.header.now) in
    let w = c.prefix.ensures.first in
    let r : seen c.prefix.result.now ≡ inside ss = w ∙ ap (λ k. take k ss) n in
    let l : length (seen c.prefix.result.now) ≤ len = omega (arith, ap length w, length-take len ss) in
    let q : take len (seen c.prefix.result.now) ≡ inside ss = take_all len (seen c.prefix.result.now) l ∙ r in
    subst (λ (b : BodySigns). IfOk c.new.result (λ x. x ≡ b))
    (ap (λ (xs : List Sign). let b : BodySigns = record { before = xs; whole = seen c.prefix.result.now } in b) q ∙ ap (λ (xs : List Sign). let b : BodySigns = record { before = inside ss; whole = xs } in b) r)
    c.new.ensures
