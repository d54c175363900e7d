-- Each state has a place: a context in which just its types are bound.
use Rattle.std.proofs.Common.{◌≡◌, inl, inr, ℕ, zero, suc, ◌+◌, ◌-◌, ◌<◌, List, [], ◌∷◌, ◌++◌, length, length-append, get_or, slice_get, Some, refl, sym, ap, subst, ◌∙◌, arith}
use Rattle.std.proofs.lemmas.Option.{slice_get-get_or}
use Rattle.terms.specs.Typing.{joined}
use Rattle.succinct.specs.Compression.{Compression}
use Rattle.succinct.specs.Sets.{joined_with, types_bound}
use Rattle.succinct.specs.declared.need.Need.{Need}
use Rattle.patterns.specs.declared.bound_set.BoundSet.{BoundSet}
use Rattle.patterns.specs.Patterned.{Patterned, ArePatterns}
use Rattle.patterns.specs.States.{no_set, types_at, left_at, AreBound}
use Rattle.patterns.proofs.Contexts.{set_of-more}
use Rattle.least_weights.proofs.Sought.{IsAt}
use Rattle.certificates.specs.Floors.{state_at}

-- a context with these types, and so many lambdas left
record HasContext (depth : ℕ) (types : List ℕ) (left : ℕ) : Type 0 where
  ctx : List (List ℕ)
  types_are : types_bound ctx ≡ types
  rows : length ctx + left ≡ depth

-- a context of one set, before which all have one
context-one : (depth : ℕ) (needs : List Need) (bound : List BoundSet) → AreBound depth needs bound → (k : ℕ) (set : BoundSet) → slice_get bound k ≡ Some set
    → ((j : ℕ) (outer : BoundSet) → j < k → slice_get bound j ≡ Some outer → HasContext depth outer.types outer.left) → HasContext depth set.types set.left
unfolding joined
context-one depth needs bound are k set is before = elim (are k set is) [
  | inl first ↦ (
      let R : BoundSet → Type 0 = λ x. HasContext depth x.types x.left in
      subst R (sym first.1) (record { ctx = []; types_are = refl; rows = omega arith }))
  | inr more ↦ (
      let R : BoundSet → Type 0 = λ x. HasContext depth x.types x.left in
      let from : HasContext depth more.outer.types more.outer.left = before more.from more.outer more.earlier more.there in
      let rows = from.rows in
      let room = more.room in
      let here : HasContext depth (joined_with more.outer.types more.binding.need.params) (more.outer.left - 1) = record {
        ctx = from.ctx ++ more.binding.need.params ∷ [];
        types_are = set_of-more from.ctx more.binding.need.params ∙ ap (λ t. joined_with t more.binding.need.params) from.types_are;
        rows = omega (arith, length-append from.ctx (more.binding.need.params ∷ []), rows, room);
      } in
      subst R (sym more.binding.is) here)
]

context-below : (depth : ℕ) (needs : List Need) (bound : List BoundSet) → AreBound depth needs bound → (n k : ℕ) (set : BoundSet) → k < n → slice_get bound k ≡ Some set → HasContext depth set.types set.left
context-below depth needs bound are zero k set low is = absurd (omega (arith, low))
context-below depth needs bound are (suc n) k set low is = context-one depth needs bound are k set is (λ j outer less there. context-below depth needs bound are n j outer (omega (arith, less, low)) there)

pub state-there : (d : Patterned) (i : ℕ) → i < length d.states → slice_get d.states i ≡ Some (state_at d i)
state-there d i low = slice_get-get_or d.states i (record { set = 0; goal = 0 }) low

-- a place at the state of a number
pub record HasPlace (d : Patterned) (depth i : ℕ) : Type 0 where
  pub ctx : List (List ℕ)
  pub at : IsAt d depth i ctx (left_at d.space (state_at d i).set) (state_at d i).goal

pub has-place : (c : Compression) (goal depth : ℕ) (d : Patterned) → ArePatterns c goal depth d → (i : ℕ) → i < length d.states → HasPlace d depth i
has-place c goal depth d made i low =
    let is = state-there d i low in
    let known = made.in_range (state_at d i) (i, is) in
    let set_is : slice_get d.space.bound (state_at d i).set ≡ Some (get_or d.space.bound (state_at d i).set no_set) = slice_get-get_or d.space.bound (state_at d i).set no_set known in
    let h : HasContext depth (types_at d.space (state_at d i).set) (left_at d.space (state_at d i).set) = context-below depth c.needs d.space.bound made.only_sets (suc (state_at d i).set) (state_at d i).set (get_or d.space.bound (state_at d i).set no_set) (omega arith) set_is in
    record { ctx = h.ctx; at = record { state = state_at d i; is = is; types = h.types_are; left_is = refl; goal = refl; rows = h.rows } }
