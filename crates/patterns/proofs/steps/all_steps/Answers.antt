use Rattle.std.proofs.Common.{◌≡◌, ◌∙◌, ◌<◌, Some, slice_get, List, length, sym, ap, refl, subst, arith}
use Rattle.std.proofs.lemmas.Option.{slice_get_read}
use Rattle.succinct.specs.Sets.{IsRising}
use Rattle.patterns.specs.declared.bound_set.BoundSet.{BoundSet}
use Rattle.patterns.proofs.Bindings.{set-rising, steps-next, bound-next}
use Rattle.patterns.proofs.Tables.{length-pushed}
use Rattle.patterns.proofs.steps.all_steps.Goals as goal

pub row_in-requires : goal.row_in-requires
row_in-requires c =
    let low : c.loop-k.k < length c.as_slice.result.now = (let long = ap (λ (l : List BoundSet). length l) c.as_slice.ensures.keys in omega (arith, long, c.if-k-len.false, c.len.ensures.len)) in
    let S : List BoundSet → Type 0 = λ l. slice_get l c.loop-k.k ≡ Some c.index-as_slice-k.result in
    let at = subst S c.as_slice.ensures.keys (slice_get_read _ _ c.loop-k.k c.index-as_slice-k.result refl low c.index-as_slice-k.is) in
    let R : BoundSet → Type 0 = λ x. IsRising x.types in
    record { rising = subst R (sym c.in_ok-outer.ensures.equal) (set-rising c.args.depth c.args.needs.now c.loop-k.bound.keys c.loop-k.invariant.bound c.loop-k.k c.index-as_slice-k.result at) }

pub loop-k-preserved : goal.loop-k-preserved
loop-k-preserved c =
    let low : c.loop-k.k < length c.as_slice.result.now = (let long = ap (λ (l : List BoundSet). length l) c.as_slice.ensures.keys in omega (arith, long, c.if-k-len.false, c.len.ensures.len)) in
    let S : List BoundSet → Type 0 = λ l. slice_get l c.loop-k.k ≡ Some c.index-as_slice-k.result in
    let at = subst S c.as_slice.ensures.keys (slice_get_read _ _ c.loop-k.k c.index-as_slice-k.result refl low c.index-as_slice-k.is) in
    let here : slice_get c.loop-k.bound.keys c.loop-k.k ≡ Some c.in_ok-outer.outer = at ∙ ap (λ (x : BoundSet). Some x) (sym c.in_ok-outer.ensures.equal) in
    record {
      long = length-pushed _ _ _ _ c.in_ok-push.ensures.items c.loop-k.invariant.long;
      first = c.row_in.ensures.grown 0 _ c.loop-k.invariant.first;
      bound = bound-next c.args.depth c.args.needs.now _ _ c.loop-k.k c.in_ok-outer.outer here c.row_in.ensures.grown c.in_ok-row_in.ensures.only c.loop-k.invariant.bound;
      steps = steps-next c.args.needs.now _ _ _ _ c.in_ok-row_in.field-0 c.loop-k.k c.in_ok-outer.outer here c.row_in.ensures.grown c.in_ok-row_in.ensures.placed c.in_ok-push.ensures.items c.loop-k.invariant.long c.loop-k.invariant.steps;
    }
