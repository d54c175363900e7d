use Rattle.std.proofs.Common.{◌≡◌, ◌<◌, List, ℕ, Some, slice_get, length, ap, refl, subst, arith, ◌∙◌}
use Rattle.std.proofs.lemmas.Option.{slice_get_read}
use Rattle.plain_listing.specs.Contexts.{AreAllMet}
use Rattle.plain_listing.proofs.Finding.{closed-next}
use Rattle.plain_listing.proofs.contexts.contexts_of.Goals as goal

pub loop-n-preserved : goal.loop-n-preserved
loop-n-preserved c =
    let g = c.args.env.now in
    let new = c.add_inner.new.contexts in
    let S : List (List (List ℕ)) → Type 0 = λ cs. slice_get cs c.loop-n.n ≡ Some c.index-as_slice-n.result in
    let low : c.loop-n.n < length c.as_slice.result.now = (let long = ap (λ (cs : List (List (List ℕ))). length cs) c.as_slice.ensures in omega (arith, long, c.if-n-len.false, c.len.ensures)) in
    let at = subst S c.as_slice.ensures (slice_get_read _ _ c.loop-n.n c.index-as_slice-n.result refl low c.index-as_slice-n.is) in
    let P : List (List ℕ) → Type 0 = λ x. length x < c.args.depth → AreAllMet g new x g.decls (length g.decls) in
    let met = subst P (c.as_slice-in-loop-n-2.ensures ∙ c.in_ok-outer.ensures.equal ∙ c.as_slice-in-loop-n.ensures) c.in_ok-add_inner.ensures.met in
    record {
      first = c.in_ok-add_inner.ensures.keeps 0 _ c.loop-n.invariant.first;
      shallow = c.in_ok-add_inner.ensures.shallow c.loop-n.invariant.shallow;
      closed = closed-next g c.args.depth _ new c.loop-n.n c.index-as_slice-n.result at c.in_ok-add_inner.ensures.keeps c.loop-n.invariant.closed met;
    }
