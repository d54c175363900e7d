use Rattle.std.proofs.Common.{arith, ap, sym, ◌≡◌, ◌∙◌, ◌<◌, length, slice_get, Some}
use Rattle.java_units.specs.Signs.{seen}
use Rattle.java_bodies.specs.Bodies.{BodySigns}
use Rattle.java_bodies.specs.Openers.{opener}
use Rattle.java_bodies.proofs.Walks.{openers_long, opener_get}
use Rattle.java_bodies.proofs.body.Body.opener.Goals as goal

pub opener_in-requires : goal.opener_in-requires
opener_in-requires c =
    let e = ap length (c.as_slice.ensures.value ∙ c.self.invariant.2) in
    let v = ap (λ (b : BodySigns). length b.before) c.self.view_is in
    omega (arith, e, v, openers_long (seen c.self.inside.before.now), c.requires)

pub returns : goal.returns
returns c =
    let ss = seen c.self.inside.before.now in
    let e = c.as_slice.ensures.value ∙ c.self.invariant.2 in
    let v = c.self.view_is in
    let l : c.args.k < length ss = omega (arith, ap (λ (b : BodySigns). length b.before) v, c.requires) in
    let s : Some c.opener_in.result ≡ Some (opener ss c.args.k) = sym c.opener_in.ensures ∙ ap (λ xs. slice_get xs c.args.k) e ∙ opener_get ss c.args.k l in
    let r : c.opener_in.result ≡ opener ss c.args.k = cc in
    r ∙ ap (λ (b : BodySigns). opener b.before c.args.k) v
