-- The sets that lambdas bind, while their table grows.
use Rattle.std.proofs.Common.{◌≡◌, ◌⊎◌, inl, inr, ℕ, zero, suc, ◌+◌, ◌<◌, ◌≤◌, true, nat_eq, List, [], ◌∷◌, ◌++◌, length, get_or, slice_get, slice_index_or, Some, refl, sym, ap, subst, ◌∙◌, arith}
use Rattle.std.specs.Cmp.Lexicographic.{pointwise, same_text}
use Rattle.std.specs.Ordering.{on, eq_of_both}
use Rattle.std.proofs.lemmas.Bool.{and_parts, eqb-true, cases_lt}
use Rattle.std.proofs.lemmas.Option.{slice_get-get_or, slice_get_within, get_or_from_slice_get}
use Rattle.succinct.specs.Numbering.{IsGrown}
use Rattle.succinct.specs.Sets.{IsRising, joined_with, set_of}
use Rattle.succinct.specs.declared.need.Need.{Need}
use Rattle.succinct.proofs.Rising.{set_of-is, rising-joined_with}
use Rattle.patterns.specs.declared.bound_set.BoundSet.{BoundSet}
use Rattle.patterns.specs.States.{bound_in, ArePlaced, IsBinding, AreSteps, AreBound}
use Rattle.patterns.proofs.Contexts.{joined_with-append}
use Rattle.patterns.proofs.Tables.{get_left, get_last}

some_set : (a b : BoundSet) → Some a ≡ Some b → a ≡ b
some_set a b h = cc

some_need : (a b : Need) → Some a ≡ Some b → a ≡ b
some_need a b h = cc

-- the set of two lists one after the other
pub joined-set : (types more : List ℕ) → IsRising types → set_of (types ++ more) ≡ joined_with types more
joined-set types more rising = joined_with-append [] types more ∙ ap (λ t. joined_with t more) (sym (set_of-is types types rising (λ a. refl)))

-- sets that the table takes for one are one
bound-same : (a b : BoundSet) → eq_of_both (on (λ y. y.types) (pointwise nat_eq)) (on (λ y. y.left) nat_eq) a b ≡ true → a ≡ b
bound-same a b h =
    let both = and_parts (pointwise nat_eq a.types b.types) (nat_eq a.left b.left) h in
    ap (λ t. record { types = t; left = a.left }) (same_text a.types b.types (sym both.0)) ∙ ap (λ n. record { types = b.types; left = n }) (eqb-true a.left b.left both.1)

-- a set that was numbered stands at its number
pub set-stands : (keys : List BoundSet) (n : ℕ) (set : BoundSet) → (k : BoundSet) × (slice_get keys n ≡ Some k) × (eq_of_both (on (λ y. y.types) (pointwise nat_eq)) (on (λ y. y.left) nat_eq) set k ≡ true) → slice_get keys n ≡ Some set
set-stands keys n set h = h.1 ∙ ap (λ k. Some k) (sym (bound-same set h.0 h.2))

-- what stands in a grown list stood there before, or is the one value more and stands behind
pub only-set : (old new : List BoundSet) (n : ℕ) (set : BoundSet) → IsGrown old new → slice_get new n ≡ Some set → ((j : ℕ) → length old ≤ j → j < length new → j ≡ n) → (j : ℕ) (s : BoundSet) → slice_get new j ≡ Some s → (slice_get old j ≡ Some s) ⊎ ((length old ≤ j) × (s ≡ set))
only-set old new n set grown at one j s is = elim (cases_lt j (length old)) [
  | inl low ↦ (
      let was : slice_get old j ≡ Some (get_or old j set) = slice_get-get_or old j set low in
      inl (was ∙ ap (λ z. Some z) (some_set (get_or old j set) s (sym (grown j (get_or old j set) was) ∙ is))))
  | inr past ↦ inr (past, some_set s set (sym is ∙ ap (slice_get new) (one j past (slice_get_within new j s is)) ∙ at))
]

pub grown-both : {X : Type 0} (a b c : List X) → IsGrown a b → IsGrown b c → IsGrown a c
grown-both a b c p q i x h = q i x (p i x h)

grown-long : (old new : List BoundSet) → IsGrown old new → length old ≤ length new
grown-long old new grown = elim (cases_lt (length new) (length old)) [
  | inl less ↦ (
      let d : BoundSet = record { types = []; left = 0 } in
      let w = slice_get_within new (length new) (get_or old (length new) d) (grown (length new) (get_or old (length new) d) (slice_get-get_or old (length new) d less)) in
      absurd (omega (arith, w)))
  | inr fine ↦ fine
]

-- one need more is placed
pub placed-next : (needs : List Need) (outer : BoundSet) (old new : List BoundSet) (row row' : List ℕ) (i to : ℕ) (need : Need) → slice_get needs i ≡ Some need → IsGrown old new → (need.lambda ≡ true → slice_get new to ≡ Some (bound_in outer need)) → row' ≡ row ++ to ∷ [] → length row ≡ i → ArePlaced needs outer old row i → ArePlaced needs outer new row' (i + 1)
placed-next needs outer old new row row' i to need at grown here more long before n need' low is lambda = elim (cases_lt n i) [
  | inl earlier ↦ (let b = before n need' earlier is lambda in (b.0, ap (λ l. slice_get l n) more ∙ get_left row (to ∷ []) n b.0 b.1, grown b.0 (bound_in outer need') b.2))
  | inr last ↦ (
      let n_is : n ≡ i = omega (arith, low, last) in
      let same : need ≡ need' = some_need need need' (sym at ∙ ap (slice_get needs) (sym n_is) ∙ is) in
      let place : n ≡ length row = n_is ∙ sym long in
      let there = subst (λ (x : Need). x.lambda ≡ true → slice_get new to ≡ Some (bound_in outer x)) same here in
      (to, ap (λ l. slice_get l n) more ∙ ap (slice_get (row ++ to ∷ [])) place ∙ get_last row to, there lambda))
]

-- so only what lambdas bind was added
pub binding-next : (needs : List Need) (outer : BoundSet) (first old new : List BoundSet) (i : ℕ) (need : Need) → slice_get needs i ≡ Some need → IsGrown first old
    → ((k : ℕ) (set : BoundSet) → slice_get old k ≡ Some set → (slice_get first k ≡ Some set) ⊎ ((length first ≤ k) × IsBinding needs outer set))
    → ((k : ℕ) (set : BoundSet) → slice_get new k ≡ Some set → (slice_get old k ≡ Some set) ⊎ ((length old ≤ k) × (need.lambda ≡ true) × (set ≡ bound_in outer need)))
    → (k : ℕ) (set : BoundSet) → slice_get new k ≡ Some set → (slice_get first k ≡ Some set) ⊎ ((length first ≤ k) × IsBinding needs outer set)
binding-next needs outer first old new i need at grown before step k set is = elim (step k set is) [
  | inl was ↦ before k set was
  | inr more ↦ (let long = grown-long first old grown in let past = more.0 in inr (omega (arith, long, past), record { number = i; need = need; numbered = at; lambda = more.1; is = more.2 }))
]

-- one set more has its row
pub steps-next : (needs : List Need) (old new : List BoundSet) (rows rows' : List (List ℕ)) (row : List ℕ) (k : ℕ) (outer : BoundSet) → slice_get old k ≡ Some outer → IsGrown old new → (0 < outer.left → ArePlaced needs outer new row (length needs)) → rows' ≡ rows ++ row ∷ [] → length rows ≡ k → AreSteps needs old rows k → AreSteps needs new rows' (k + 1)
steps-next needs old new rows rows' row k outer at grown here more long before j n set need low is room there lambda = elim (cases_lt j k) [
  | inl earlier ↦ (
      let within : j < length old = (let w = slice_get_within old k outer at in omega (arith, w, earlier)) in
      let was : slice_get old j ≡ Some (get_or old j outer) = slice_get-get_or old j outer within in
      let same : get_or old j outer ≡ set = some_set (get_or old j outer) set (sym (grown j (get_or old j outer) was) ∙ is) in
      let b = before j n set need earlier (was ∙ ap (λ x. Some x) same) room there lambda in
      (b.0, ap (λ r. slice_get r n) (row-kept j earlier) ∙ b.1, grown b.0 (bound_in set need) b.2))
  | inr last ↦ (
      let j_is : j ≡ k = omega (arith, low, last) in
      let same : outer ≡ set = some_set outer set (sym (grown k outer at) ∙ ap (slice_get new) (sym j_is) ∙ is) in
      let placed = subst (λ (x : BoundSet). 0 < x.left → ArePlaced needs x new row (length needs)) same here in
      let r = placed room n need (slice_get_within needs n need there) there lambda in
      (r.0, ap (λ x. slice_get x n) (row-last j j_is) ∙ r.1, r.2))
]
  where
    row-kept : (m : ℕ) → m < k → slice_index_or rows' m [] ≡ slice_index_or rows m []
    row-kept m less =
        let had : slice_get rows m ≡ Some (get_or rows m []) = slice_get-get_or rows m [] (omega (arith, less, long)) in
        get_or_from_slice_get rows' m (get_or rows m []) [] (ap (λ l. slice_get l m) more ∙ get_left rows (row ∷ []) m (get_or rows m []) had)

    row-last : (m : ℕ) → m ≡ k → slice_index_or rows' m [] ≡ row
    row-last m same = get_or_from_slice_get rows' m row [] (ap (λ l. slice_get l m) more ∙ ap (slice_get (rows ++ row ∷ [])) (same ∙ sym long) ∙ get_last rows row)

-- and only what lambdas bind was added
pub bound-next : (depth : ℕ) (needs : List Need) (old new : List BoundSet) (k : ℕ) (outer : BoundSet) → slice_get old k ≡ Some outer → IsGrown old new
    → ((j : ℕ) (set : BoundSet) → slice_get new j ≡ Some set → (slice_get old j ≡ Some set) ⊎ ((0 < outer.left) × (length old ≤ j) × IsBinding needs outer set)) → AreBound depth needs old → AreBound depth needs new
bound-next depth needs old new k outer at grown step before j set is = elim (step j set is) [
  | inl was ↦ (elim (before j set was) [
    | inl first ↦ inl first
    | inr b ↦ inr (record { from = b.from; outer = b.outer; earlier = b.earlier; there = grown b.from b.outer b.there; room = b.room; binding = b.binding })
  ])
  | inr more ↦ (
      let low = slice_get_within old k outer at in
      let past = more.1 in
      inr (record { from = k; outer = outer; earlier = omega (arith, low, past); there = grown k outer at; room = more.0; binding = more.2 }))
]

-- the types of each set come rising
rising-below : (depth : ℕ) (needs : List Need) (bound : List BoundSet) → AreBound depth needs bound → (fuel k : ℕ) (set : BoundSet) → k < fuel → slice_get bound k ≡ Some set → IsRising set.types
rising-below depth needs bound are zero k set low at = absurd (omega (arith, low))
rising-below depth needs bound are (suc fuel) k set low at = elim (are k set at) [
  | inl first ↦ (let R : BoundSet → Type 0 = λ x. IsRising x.types in subst R (sym first.1) tt)
  | inr b ↦ (
      let R : BoundSet → Type 0 = λ x. IsRising x.types in
      let below = b.earlier in
      subst R (sym b.binding.is) (rising-joined_with b.outer.types b.binding.need.params (rising-below depth needs bound are fuel b.from b.outer (omega (arith, low, below)) b.there)))
]

pub set-rising : (depth : ℕ) (needs : List Need) (bound : List BoundSet) → AreBound depth needs bound → (k : ℕ) (set : BoundSet) → slice_get bound k ≡ Some set → IsRising set.types
set-rising depth needs bound are k set at = rising-below depth needs bound are (suc k) k set (omega arith) at

-- the first set of an empty table
pub sets-first : (old new : List BoundSet) (i : ℕ) (set : BoundSet) → old ≡ [] → slice_get new i ≡ Some set → ((j : ℕ) → length old ≤ j → j < length new → j ≡ i) → slice_get new 0 ≡ Some set
sets-first old new i set empty at one =
    let low = slice_get_within new i set at in
    let none = ap length empty in
    let first : 0 ≡ i = one 0 (omega (arith, none)) (omega (arith, low)) in
    ap (slice_get new) first ∙ at

pub sets-only : (old new : List BoundSet) (i : ℕ) (set : BoundSet) → old ≡ [] → slice_get new i ≡ Some set → ((j : ℕ) → length old ≤ j → j < length new → j ≡ i) → (k : ℕ) (s : BoundSet) → slice_get new k ≡ Some s → (k ≡ 0) × (s ≡ set)
sets-only old new i set empty at one k s is =
    let low = slice_get_within new i set at in
    let here = slice_get_within new k s is in
    let none = ap length empty in
    let first : 0 ≡ i = one 0 (omega (arith, none)) (omega (arith, low)) in
    let same : k ≡ i = one k (omega (arith, none)) here in
    (same ∙ sym first, some_set s set (sym is ∙ ap (slice_get new) same ∙ at))

-- the empty set alone
pub bound-first : (depth : ℕ) (needs : List Need) (bound : List BoundSet) → ((k : ℕ) (s : BoundSet) → slice_get bound k ≡ Some s → (k ≡ 0) × (s ≡ record { types = []; left = depth })) → AreBound depth needs bound
bound-first depth needs bound only k set at = inl (only k set at)
