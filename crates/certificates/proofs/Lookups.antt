-- Floors of told states, looked up by their states.
use Rattle.std.proofs.Common.{◌≡◌, inl, inr, ℕ, suc, ◌<◌, Bool, true, false, ◌&&◌, ◌==◌, List, [], ◌∷◌, length, map, get_or, slice_get, Option, Some, refl, sym, ap, ◌∙◌, arith}
use Rattle.std.specs.Prelude.{if◌then◌else◌, bytes_eq}
use Rattle.std.proofs.lemmas.Bool.{false≢true, and_parts, and_from, or_cases, or_left, or_right, eqb-true, eq-eqb}
use Rattle.std.proofs.lemmas.Option.{slice_get-get_or, get_or_from_slice_get}
use Rattle.std.proofs.lemmas.Slice.Eq.{bytes_eq-Decides}
use Rattle.terms.specs.declared.parts.Parts.{Parts}
use Rattle.succinct.specs.Compression.{Compression, AreDistinct}
use Rattle.succinct.specs.Sets.{has}
use Rattle.patterns.specs.declared.bound_set.BoundSet.{BoundSet}
use Rattle.patterns.specs.declared.state.State.{State}
use Rattle.patterns.specs.Patterned.{Patterned, ArePatterns}
use Rattle.patterns.specs.States.{no_set, types_at, left_at}
use Rattle.patterns.proofs.Contexts.{get-has}
use Rattle.edges.proofs.Options.{some_eq}
use Rattle.checker.specs.Floors.{is_at, floor_of, is_among, are_apart, IsFirst}
use Rattle.certificates.specs.Told.{number_of}
use Rattle.certificates.specs.Floors.{state_at, floor_at}
use Rattle.certificates.proofs.Places.{state-there}

same-set : (a b : BoundSet) → a.types ≡ b.types → a.left ≡ b.left → a ≡ b
same-set a b t l = ap (λ x. record { types = x; left = a.left }) t ∙ ap (λ n. record { types = b.types; left = n }) l

same-record : (a b : State) → a.set ≡ b.set → a.goal ≡ b.goal → a ≡ b
same-record a b s t = ap (λ x. record { set = x; goal = a.goal }) s ∙ ap (λ n. record { set = b.set; goal = n }) t

pub tail-within : (d : Patterned) (i : ℕ) (told : List ℕ) → ((j : ℕ) → has j (i ∷ told) ≡ true → j < length d.states) → (j : ℕ) → has j told ≡ true → j < length d.states
tail-within d i told within j h = within j (or_right (j == i) (has j told) h)

pub head-within : (d : Patterned) (i : ℕ) (told : List ℕ) → ((j : ℕ) → has j (i ∷ told) ≡ true → j < length d.states) → i < length d.states
head-within d i told within = within i (or_left (i == i) (has i told) (eq-eqb i i refl))

module _ (g : Parts) (c : Compression) {goal depth : ℕ} (d : Patterned) (made : ArePatterns c goal depth d) (weights : List (Option ℕ)) where
  -- whether a floor is that of a state
  abbrev is_of : ℕ → ℕ → Bool
  is_of j i = is_at (types_at d.space (state_at d j).set) (left_at d.space (state_at d j).set) (state_at d j).goal (floor_at g d weights i)

  -- floors of one state are of one number
  same-state : (i j : ℕ) → i < length d.states → j < length d.states → is_of j i ≡ true → i ≡ j
  same-state i j low low' e =
      let at = state-there d i low in
      let at' = state-there d j low' in
      let parts = and_parts (bytes_eq (types_at d.space (state_at d i).set) (types_at d.space (state_at d j).set)) ((left_at d.space (state_at d i).set == left_at d.space (state_at d j).set) && ((state_at d i).goal == (state_at d j).goal)) e in
      let more = and_parts (left_at d.space (state_at d i).set == left_at d.space (state_at d j).set) ((state_at d i).goal == (state_at d j).goal) parts.1 in
      let types = (bytes_eq-Decides (types_at d.space (state_at d i).set) (types_at d.space (state_at d j).set)).0 parts.0 in
      let left = eqb-true (left_at d.space (state_at d i).set) (left_at d.space (state_at d j).set) more.0 in
      let goals = eqb-true (state_at d i).goal (state_at d j).goal more.1 in
      let set = slice_get-get_or d.space.bound (state_at d i).set no_set (made.in_range (state_at d i) (i, at)) in
      let set' = slice_get-get_or d.space.bound (state_at d j).set no_set (made.in_range (state_at d j) (j, at')) in
      let one = same-set (get_or d.space.bound (state_at d i).set no_set) (get_or d.space.bound (state_at d j).set no_set) types left in
      let sets = made.distinct_sets (state_at d i).set (state_at d j).set (get_or d.space.bound (state_at d j).set no_set) (set ∙ ap (λ x. Some x) one) set' in
      made.found.distinct_states i j (state_at d j) (at ∙ ap (λ x. Some x) (same-record (state_at d i) (state_at d j) sets goals)) at'

  is-itself : (j : ℕ) → is_of j j ≡ true
  is-itself j = and_from (bytes_eq (types_at d.space (state_at d j).set) (types_at d.space (state_at d j).set)) ((left_at d.space (state_at d j).set == left_at d.space (state_at d j).set) && ((state_at d j).goal == (state_at d j).goal))
      ((bytes_eq-Decides (types_at d.space (state_at d j).set) (types_at d.space (state_at d j).set)).1 refl)
      (and_from (left_at d.space (state_at d j).set == left_at d.space (state_at d j).set) ((state_at d j).goal == (state_at d j).goal) (eq-eqb (left_at d.space (state_at d j).set) (left_at d.space (state_at d j).set) refl) (eq-eqb (state_at d j).goal (state_at d j).goal refl))

  -- the floor of a told state is its number
  pub floor-found : (told : List ℕ) → ((j : ℕ) → has j told ≡ true → j < length d.states) → (j : ℕ) → j < length d.states → has j told ≡ true
      → floor_of (map (floor_at g d weights) told) (types_at d.space (state_at d j).set) (left_at d.space (state_at d j).set) (state_at d j).goal ≡ number_of g weights j
  unfolding floor_of
  floor-found [] within j low h = absurd (false≢true h)
  floor-found (i ∷ told) within j low h = go (is_of j i) refl (λ later. floor-found told (tail-within d i told within) j low later)
    where
      rest : ℕ
      rest = floor_of (map (floor_at g d weights) told) (types_at d.space (state_at d j).set) (left_at d.space (state_at d j).set) (state_at d j).goal

      go : (b : Bool) → is_of j i ≡ b → (has j told ≡ true → rest ≡ number_of g weights j) → (if b then number_of g weights i else rest) ≡ number_of g weights j
      go true e later = ap (number_of g weights) (same-state i j (head-within d i told within) low e)
      go false e later = elim (or_cases (j == i) (has j told) h) [
        | inl here ↦ absurd (false≢true (sym e ∙ ap (is_of j) (sym (eqb-true j i here)) ∙ is-itself j))
        | inr there ↦ later there
      ]

  -- no other floor is of a state
  not-among : (i : ℕ) → i < length d.states → (told : List ℕ) → ((j : ℕ) → has j told ≡ true → j < length d.states) → has i told ≡ false → is_among (floor_at g d weights i) (map (floor_at g d weights) told) ≡ false
  unfolding is_among
  not-among i low [] within h = refl
  not-among i low (k ∷ told) within h = go (is_of i k) refl (λ h'. not-among i low told (tail-within d k told within) h')
    where
      go : (b : Bool) → is_of i k ≡ b → (has i told ≡ false → is_among (floor_at g d weights i) (map (floor_at g d weights) told) ≡ false) → (if b then true else is_among (floor_at g d weights i) (map (floor_at g d weights) told)) ≡ false
      go true e later = (let same = same-state k i (head-within d k told within) low e in absurd (false≢true (sym h ∙ or_left (i == k) (has i told) (eq-eqb i k (sym same)))))
      go false e later = later (none (has i told) refl)
        where
          none : (b : Bool) → has i told ≡ b → has i told ≡ false
          none false is = is
          none true is = absurd (false≢true (sym h ∙ or_right (i == k) (has i told) is))

  apart-head : (i : ℕ) (told : List ℕ) → AreDistinct (i ∷ told) → has i told ≡ false
  apart-head i told distinct = go (has i told) refl
    where
      go : (b : Bool) → has i told ≡ b → has i told ≡ false
      go false is = is
      go true is = (let r = get-has told i is in let e = distinct 0 (suc r.0) i refl r.1 in absurd (omega (arith, e)))

  tail-distinct : (i : ℕ) (told : List ℕ) → AreDistinct (i ∷ told) → AreDistinct told
  tail-distinct i told distinct m n x at at' = (let e = distinct (suc m) (suc n) x at at' in omega (arith, e))

  -- so floors of told states are apart
  pub all-apart : (told : List ℕ) → ((j : ℕ) → has j told ≡ true → j < length d.states) → AreDistinct told → are_apart (map (floor_at g d weights) told) ≡ true
  unfolding are_apart
  all-apart [] within distinct = refl
  all-apart (i ∷ told) within distinct =
      ap (λ b. if b then false else are_apart (map (floor_at g d weights) told)) (not-among i (head-within d i told within) told (tail-within d i told within) (apart-head i told distinct))
      ∙ all-apart told (tail-within d i told within) (tail-distinct i told distinct)

  -- the first is the goal's
  pub first-is : depth ≡ g.depth → goal ≡ g.goal → (told : List ℕ) → slice_get told 0 ≡ Some 0 → IsFirst g (map (floor_at g d weights) told) (number_of g weights 0)
  first-is deep wants [] first = cc
  first-is deep wants (i ∷ told) first =
      let zero_is : i ≡ 0 = some_eq i 0 first in
      let at : state_at d 0 ≡ record { set = 0; goal = goal } = get_or_from_slice_get d.states 0 (record { set = 0; goal = goal }) (record { set = 0; goal = 0 }) made.found.first in
      let set : get_or d.space.bound 0 no_set ≡ record { types = []; left = depth } = get_or_from_slice_get d.space.bound 0 (record { types = []; left = depth }) no_set made.first_set in
      let here : state_at d i ≡ record { set = 0; goal = goal } = ap (state_at d) zero_is ∙ at in (
        ap (λ (s : State). types_at d.space s.set) here ∙ ap (λ (b : BoundSet). b.types) set,
        ap (λ (s : State). left_at d.space s.set) here ∙ ap (λ (b : BoundSet). b.left) set ∙ deep,
        ap (λ (s : State). s.goal) here ∙ wants,
        ap (number_of g weights) zero_is,
      )
