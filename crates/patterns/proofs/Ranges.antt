-- The sets of the states are there.
use Rattle.std.proofs.Common.{◌≡◌, ◌⊎◌, inl, inr, ℕ, ◌<◌, List, [], ◌∷◌, length, get_or, slice_get, Some, Result, Ok, Err, OnOk, refl, sym, ap, subst, ◌∙◌, arith}
use Rattle.std.proofs.lemmas.Option.{slice_get-get_or, slice_get_within}
use Rattle.patterns.specs.declared.state.State.{State}
use Rattle.patterns.specs.declared.wanted.Wanted.{Wanted}
use Rattle.patterns.specs.States.{Space, set_sought, IsListed, AreInRange, AreSetsInRange}

range-need : (p : Space) (old new : List State) (from : State) (n : ℕ) (w : Wanted) (to : ℕ) → slice_get p.wanted n ≡ Some w → set_sought p from.set w ≡ Some to → ((s : State) → IsListed new s → IsListed old s ⊎ (s ≡ record { set = to; goal = w.goal }))
    → AreSetsInRange p → from.set < length p.bound → AreInRange p old → AreInRange p new
range-need p old new from n w to is sought only sets low before s listed = elim (only s listed) [
  | inl was ↦ before s was
  | inr same ↦ (let P : State → Type 0 = λ x. x.set < length p.bound in subst P (sym same) (sets n from.set to w is sought low))
]

-- one state more at most
pub range-call : {A E : Type 0} (r : Result A E) (p : Space) (old new : List State) (from : State) (n : ℕ) (w : Wanted) (to : ℕ) → slice_get p.wanted n ≡ Some w → set_sought p from.set w ≡ Some to → OnOk r ((s : State) → IsListed new s → IsListed old s ⊎ (s ≡ record { set = to; goal = w.goal }))
    → OnOk r (AreSetsInRange p → from.set < length p.bound → AreInRange p old → AreInRange p new)
range-call (Ok a) p old new from n w to is sought only = range-need p old new from n w to is sought only
range-call (Err e) p old new from n w to is sought only = only

-- the states that a listed one leads to
pub range-next : (p : Space) (first old keys new : List State) (i : ℕ) (d from : State) → i < length old → keys ≡ old → from ≡ get_or keys i d → (AreSetsInRange p → AreInRange p first → AreInRange p old)
    → (AreSetsInRange p → from.set < length p.bound → AreInRange p old → AreInRange p new) → AreSetsInRange p → AreInRange p first → AreInRange p new
range-next p first old keys new i d from low same at before step sets start =
    let found : slice_get old i ≡ Some from = slice_get-get_or old i d low ∙ ap (λ l. Some (get_or l i d)) (sym same) ∙ ap (λ x. Some x) (sym at) in
    let b : AreInRange p old = before sets start in
    step sets (b from (i, found)) b

-- the first state alone
pub range-first : (p : Space) (goal : ℕ) (states : List State) → 0 < length p.bound → ((s : State) → IsListed states s → s ≡ record { set = 0; goal = goal }) → AreInRange p states
range-first p goal states some only s listed = (let e : s.set ≡ 0 = ap (λ x. x.set) (only s listed) in omega (arith, e, some))

-- a state that is listed first is the only one
pub only-listed : (old new : List State) (s : State) → old ≡ [] → ((x : State) → IsListed new x → IsListed old x ⊎ (x ≡ s)) → (x : State) → IsListed new x → x ≡ s
only-listed old new s e more x at = elim (more x at) [
  | inl h ↦ (let w = slice_get_within old h.0 x h.1 in let z = ap length e in absurd (omega (arith, w, z)))
  | inr same ↦ same
]

-- and stands in front
pub first-listed : (states : List State) (s : State) → IsListed states s → ((x : State) → IsListed states x → x ≡ s) → slice_get states 0 ≡ Some s
first-listed [] s at only = (let w = slice_get_within [] at.0 s at.1 in absurd (omega (arith, w)))
first-listed (x ∷ xs) s at only = ap (λ y. Some y) (only x (0, refl))
