-- The steps by which states are told.
use Rattle.std.proofs.Common.{◌≡◌, ◌⊎◌, inl, inr, ℕ, zero, suc, ◌+◌, ◌-◌, ◌≤◌, ◌<◌, true, ◌==◌, List, [], ◌∷◌, length, map, take, drop, drop-cons, get_or, slice_get, Option, Some, None, refl, sym, ap, subst, ◌∙◌, arith}
use Rattle.std.specs.Prelude.{IfSome}
use Rattle.std.proofs.lemmas.Bool.{cases_lt, or_left, or_right, eq-eqb}
use Rattle.std.proofs.lemmas.List.{drop_all, length-map}
use Rattle.std.proofs.lemmas.Option.{get_or_from_slice_get, slice_get-get_or, slice_get_within}
use Rattle.terms.specs.Faults.{IsValid}
use Rattle.terms.specs.Weights.{coercion_weight}
use Rattle.terms.specs.declared.parts.Decl.{Decl}
use Rattle.terms.specs.declared.parts.Parts.{Parts}
use Rattle.terms.proofs.Valid.{valid-decl, valid-pair}
use Rattle.number_places.specs.Places.{places_of}
use Rattle.succinct.specs.Compression.{Compression, AreDistinct, of_decl, of_pair}
use Rattle.succinct.specs.Numbering.{IsGrown}
use Rattle.succinct.specs.Sets.{has}
use Rattle.succinct.proofs.Needs.{grown-trans}
use Rattle.patterns.specs.Patterned.{Patterned, sought_from, state_sought}
use Rattle.patterns.specs.States.{set_sought, place_in, place_sought}
use Rattle.patterns.specs.declared.wanted.Wanted.{Wanted}
use Rattle.patterns.specs.declared.state.State.{State}
use Rattle.patterns.proofs.Contexts.{get-has}
use Rattle.patterns.proofs.Meaning.{pair-get}
use Rattle.patterns.proofs.Mets.{state_place-get}
use Rattle.edges.proofs.Options.{some_eq, none_some, get-either, get-second}
use Rattle.edges.proofs.Places.{in-places}
use Rattle.least_weights.proofs.Joins.{at-first}
use Rattle.least_weights.proofs.Members.{each-more, each-all}
use Rattle.certificates.specs.Results.{results_of, AreByResult}
use Rattle.certificates.specs.Floors.{state_at}
use Rattle.certificates.specs.Told.{number_of, AreTold, IsHeadTold, IsTypeTold, IsPairTold, AreLowersTold, IsStateTold, AreAllTold}

-- what stands at a place is in the list
pub has-get : (xs : List ℕ) (n x : ℕ) → slice_get xs n ≡ Some x → has x xs ≡ true
has-get [] n x h = cc
has-get (y ∷ xs) zero x h = or_left (x == y) (has x xs) (eq-eqb x y (sym (some_eq y x h)))
has-get (y ∷ xs) (suc n) x h = or_right (x == y) (has x xs) (has-get xs n x h)

-- what is in a list is in a longer one
pub has-grown : (old new : List ℕ) → IsGrown old new → (x : ℕ) → has x old ≡ true → has x new ≡ true
has-grown old new grown x h = (let r = get-has old x h in has-get new r.0 x (grown r.0 x r.1))

-- a state in which a need is sought is there
pub sought-low : (d : Patterned) (i n j : ℕ) → state_sought d i n ≡ Some j → j < length d.states
sought-low d i n j h = from (slice_get d.states i) h
  where
    in_set : (s : State) (w : Wanted) (o : Option ℕ) → place_in d.states w.goal o ≡ Some j → j < length d.states
    in_set s w None e = absurd (none_some j e)
    in_set s w (Some set) e = slice_get_within d.states j (record { set = set; goal = w.goal }) (state_place-get d.states (record { set = set; goal = w.goal }) j e)

    of_want : (s : State) (o : Option Wanted) → place_sought d.space d.states s o ≡ Some j → j < length d.states
    of_want s None e = absurd (none_some j e)
    of_want s (Some w) e = in_set s w (set_sought d.space s.set w) e

    from : (o : Option State) → sought_from d o n ≡ Some j → j < length d.states
    from None e = absurd (none_some j e)
    from (Some s) e = of_want s (slice_get d.space.wanted n) e

module _ (g : Parts) (d : Patterned) (weights : List (Option ℕ)) (i : ℕ) where
  -- where nothing is left, nothing more is to be told
  nothing-left : (all ns : List ℕ) (rest : ℕ) → rest ≡ 0 → AreTold g d weights all i ns rest
  nothing-left all [] rest none = tt
  nothing-left all (n ∷ ns) rest none = inl none

  -- what was told so far is enough where nothing is left, where no need is left, and at a lambda where none is left
  pub told-enough : (ns : List ℕ) (k rest most : ℕ) (now : List ℕ) → rest ≡ 0 → ((all : List ℕ) → IsGrown now all → AreTold g d weights all i (drop k ns) rest → AreTold g d weights all i ns most) → (all : List ℕ) → IsGrown now all → AreTold g d weights all i ns most
  told-enough ns k rest most now none before all grown = before all grown (nothing-left all (drop k ns) rest none)

  pub told-end : (ns : List ℕ) (k rest most : ℕ) (now : List ℕ) → length ns ≤ k → ((all : List ℕ) → IsGrown now all → AreTold g d weights all i (drop k ns) rest → AreTold g d weights all i ns most) → (all : List ℕ) → IsGrown now all → AreTold g d weights all i ns most
  told-end ns k rest most now past before all grown = before all grown (subst (λ l. AreTold g d weights all i l rest) (sym (drop_all k ns past)) tt)

  pub told-nowhere : (ns : List ℕ) (k n rest most : ℕ) (now : List ℕ) → k < length ns → n ≡ get_or ns k 0 → None ≡ state_sought d i n → ((all : List ℕ) → IsGrown now all → AreTold g d weights all i (drop k ns) rest → AreTold g d weights all i ns most) → (all : List ℕ) → IsGrown now all → AreTold g d weights all i ns most
  told-nowhere ns k n rest most now low at nowhere before all grown =
      let here : AreTold g d weights all i (n ∷ drop (suc k) ns) rest = inr (subst (λ o. IfSome o (λ j. (has j all ≡ true) × AreTold g d weights all i (drop (suc k) ns) (rest - number_of g weights j))) nowhere tt) in
      before all grown (subst (λ l. AreTold g d weights all i l rest) (ap (λ x. x ∷ drop (suc k) ns) at ∙ sym (drop-cons ns k 0 low)) here)

  -- one need more
  pub told-more : (ns : List ℕ) (k n j rest most : ℕ) (old new : List ℕ) → k < length ns → n ≡ get_or ns k 0 → Some j ≡ state_sought d i n → has j new ≡ true → IsGrown old new
      → ((all : List ℕ) → IsGrown old all → AreTold g d weights all i (drop k ns) rest → AreTold g d weights all i ns most)
      → (all : List ℕ) → IsGrown new all → AreTold g d weights all i (drop (k + 1) ns) (rest - number_of g weights j) → AreTold g d weights all i ns most
  told-more ns k n j rest most old new low at sought added grown before all later are =
      let one : k + 1 ≡ suc k = omega arith in
      let others : AreTold g d weights all i (drop (suc k) ns) (rest - number_of g weights j) = subst (λ x. AreTold g d weights all i (drop x ns) (rest - number_of g weights j)) one are in
      let here : AreTold g d weights all i (n ∷ drop (suc k) ns) rest = inr (subst (λ o. IfSome o (λ m. (has m all ≡ true) × AreTold g d weights all i (drop (suc k) ns) (rest - number_of g weights m))) sought (has-grown new all later j added, others)) in
      before all (grown-trans old new all grown later) (subst (λ l. AreTold g d weights all i l rest) (ap (λ x. x ∷ drop (suc k) ns) at ∙ sym (drop-cons ns k 0 low)) here)

at-mapped : {Y A : Type 0} (h : Y → A) (ys : List Y) (j : ℕ) (y : Y) → slice_get ys j ≡ Some y → slice_get (map h ys) j ≡ Some (h y)
at-mapped h [] j y e = cc
at-mapped h (z ∷ ys) zero y e = ap (λ x. Some (h x)) (some_eq z y e)
at-mapped h (z ∷ ys) (suc j) y e = at-mapped h ys j y e

module _ (g : Parts) (c : Compression) (d : Patterned) (weights : List (Option ℕ)) (i most : ℕ) where
  -- one head more
  pub heads-more : (xs : List ℕ) (k x : ℕ) (old new : List ℕ) → k < length xs → x ≡ get_or xs k 0 → IsGrown old new
      → ((m : ℕ) → has m (take k xs) ≡ true → (all : List ℕ) → IsGrown old all → IsHeadTold g c d weights all i most m)
      → ((all : List ℕ) → IsGrown new all → IsHeadTold g c d weights all i most x)
      → (m : ℕ) → has m (take (k + 1) xs) ≡ true → (all : List ℕ) → IsGrown new all → IsHeadTold g c d weights all i most m
  heads-more xs k x old new low at grown before here = each-more (λ m. (all : List ℕ) → IsGrown new all → IsHeadTold g c d weights all i most m) xs k x 0 low at (λ m h all later. before m h all (grown-trans old new all grown later)) here

  -- all heads of a type, and all pairs to it, stand in its row
  in-row : (lists : List (List ℕ)) (a n : ℕ) (xs : List ℕ) → a < length g.types → AreByResult g lists → xs ≡ get_or lists a [] → slice_get (results_of g) n ≡ Some a → has n xs ≡ true
  in-row lists a n xs low by_result row at =
      let is : xs ≡ places_of a (results_of g) = row ∙ get_or_from_slice_get lists a (places_of a (results_of g)) [] (by_result a low) in
      let zero_add : 0 + n ≡ n = omega arith in
      ap (has n) is ∙ ap (λ m. has m (places_of a (results_of g))) (sym zero_add) ∙ in-places a (results_of g) 0 n at

  pub type-told : (lists : List (List ℕ)) (a k : ℕ) (xs now : List ℕ) → IsValid g → AreByResult g lists → xs ≡ get_or lists a [] → length xs ≤ k
      → ((m : ℕ) → has m (take k xs) ≡ true → (all : List ℕ) → IsGrown now all → IsHeadTold g c d weights all i most m)
      → (all : List ℕ) → IsGrown now all → IsTypeTold g c d weights all i most a
  type-told lists a k xs now valid by_result row past told all grown n decl at gives =
      let low : a < length g.types = subst (λ m. m < length g.types) gives (valid-decl g valid n decl at).result in
      let here : slice_get (results_of g) n ≡ Some a = at-first (λ (x : Decl). (of_decl x).result) g.decls (map (λ (p : ℕ × ℕ). (of_pair p).result) g.pairs) n decl at ∙ ap (λ m. Some m) gives in
      each-all (λ m. (every : List ℕ) → IsGrown now every → IsHeadTold g c d weights every i most m) xs k past told n (in-row lists a n xs low by_result row here) all grown decl at

  pub lowers-told : (lists : List (List ℕ)) (b k : ℕ) (xs now : List ℕ) → IsValid g → AreByResult g lists → xs ≡ get_or lists b [] → length xs ≤ k
      → ((m : ℕ) → has m (take k xs) ≡ true → (all : List ℕ) → IsGrown now all → IsPairTold g c d weights all i most m)
      → (all : List ℕ) → IsGrown now all → AreLowersTold g c d weights all i most b
  lowers-told lists b k xs now valid by_result row past told all grown n pair at upper =
      let low : b < length g.types = subst (λ m. m < length g.types) upper (valid-pair g valid pair.0 pair.1 (pair-get g.pairs n pair at)).1 in
      let many : length (map (λ (x : Decl). (of_decl x).result) g.decls) ≡ length g.decls = length-map g.decls (λ (x : Decl). (of_decl x).result) in
      let place : length (map (λ (x : Decl). (of_decl x).result) g.decls) + n ≡ length g.decls + n = ap (λ m. m + n) many in
      let mapped : slice_get (map (λ (p : ℕ × ℕ). (of_pair p).result) g.pairs) n ≡ Some b = at-mapped (λ (p : ℕ × ℕ). (of_pair p).result) g.pairs n pair at ∙ ap (λ m. Some m) upper in
      let here : slice_get (results_of g) (length g.decls + n) ≡ Some b = ap (slice_get (results_of g)) (sym place) ∙ get-second (map (λ (x : Decl). (of_decl x).result) g.decls) (map (λ (p : ℕ × ℕ). (of_pair p).result) g.pairs) n b mapped in
      each-all (λ m. (every : List ℕ) → IsGrown now every → IsPairTold g c d weights every i most m) xs k past told (length g.decls + n) (in-row lists b (length g.decls + n) xs low by_result row here) all grown n pair refl at

record Unmapped {X : Type 0} (h : X → ℕ) (xs : List X) (i k : ℕ) : Type 0 where
  item : X
  is : slice_get xs i ≡ Some item
  one : h item ≡ k

unmapped : {X : Type 0} (h : X → ℕ) (xs : List X) (i k : ℕ) → slice_get (map h xs) i ≡ Some k → Unmapped h xs i k
unmapped h [] i k e = cc
unmapped h (x ∷ xs) zero k e = record { item = x; is = refl; one = some_eq (h x) k e }
unmapped {X} h (x ∷ xs) (suc i) k e = (let u : Unmapped h xs i k = unmapped h xs i k e in record { item = u.item; is = u.is; one = u.one })

-- what a source gives is a type
pub results-low : (g : Parts) → IsValid g → (i k : ℕ) → slice_get (results_of g) i ≡ Some k → k < length g.types
results-low g valid i k at = elim (get-either (map (λ (x : Decl). (of_decl x).result) g.decls) (map (λ (p : ℕ × ℕ). (of_pair p).result) g.pairs) i k at) [
  | inl first ↦ (
      let u : Unmapped (λ (x : Decl). (of_decl x).result) g.decls i k = unmapped (λ (x : Decl). (of_decl x).result) g.decls i k first in
      subst (λ n. n < length g.types) u.one (valid-decl g valid i u.item u.is).result)
  | inr second ↦ (
      let u : Unmapped (λ (p : ℕ × ℕ). (of_pair p).result) g.pairs second.0 k = unmapped (λ (p : ℕ × ℕ). (of_pair p).result) g.pairs second.0 k second.2 in
      subst (λ n. n < length g.types) u.one (valid-pair g valid u.item.0 u.item.1 (pair-get g.pairs second.0 u.item u.is)).1)
]

module _ (g : Parts) (c : Compression) (d : Patterned) (weights : List (Option ℕ)) where
  -- what all states before a place rest on
  abbrev pub AreBeforeTold : List ℕ → ℕ → Type 0
  AreBeforeTold now place = (k j : ℕ) → k < place → slice_get now k ≡ Some j → (all : List ℕ) → IsGrown now all → IsStateTold g c d weights all j

  -- one state more: what stood before the place stands there still, if the list was longer than the place
  pub before-more : (old new : List ℕ) (place i : ℕ) → Some i ≡ slice_get old place → IsGrown old new → AreBeforeTold old place → ((all : List ℕ) → IsGrown new all → IsStateTold g c d weights all i) → AreBeforeTold new (place + 1)
  before-more old new place i at grown before here k j low there all later = go (cases_lt k place)
    where
      in_range : place < length old
      in_range = slice_get_within old place i (sym at)

      go : (k < place) ⊎ (place ≤ k) → IsStateTold g c d weights all j
      go (inl less) =
          let was : slice_get old k ≡ Some (get_or old k 0) = slice_get-get_or old k 0 (let r = in_range in omega (arith, less, r)) in
          let same : get_or old k 0 ≡ j = some_eq (get_or old k 0) j (sym (grown k (get_or old k 0) was) ∙ there) in
          before k j less (was ∙ ap (λ x. Some x) same) all (grown-trans old new all grown later)
      go (inr past) =
          let is : place ≡ k = omega (arith, past, low) in
          let same : i ≡ j = some_eq i j (sym (grown place i (sym at)) ∙ ap (slice_get new) is ∙ there) in
          subst (IsStateTold g c d weights all) same (here all later)

  -- all states, where no more stands at the place
  pub before-all : (now : List ℕ) (place : ℕ) → None ≡ slice_get now place → AreBeforeTold now place → (j : ℕ) → has j now ≡ true → IsStateTold g c d weights now j
  before-all now place none before j h =
      let r = get-has now j h in
      let low = slice_get_within now r.0 j r.1 in
      let past : length now ≤ place = past-end now place (sym none) in
      before r.0 j (omega (arith, low, past)) r.1 now (λ k x at. at)
    where
      past-end : (xs : List ℕ) (k : ℕ) → slice_get xs k ≡ None → length xs ≤ k
      past-end [] k e = omega arith
      past-end (x ∷ xs) zero e = absurd (none_some x (sym e))
      past-end (x ∷ xs) (suc k) e = (let r = past-end xs k e in omega (arith, r))

  -- all that the floor of a state rests on, by the two steps in which it is told
  pub state-told : (i floor goal below : ℕ) (mid new : List ℕ) → floor ≡ number_of g weights i → below ≡ number_of g weights i - coercion_weight g → goal ≡ (state_at d i).goal → IsGrown mid new
      → ((all : List ℕ) → IsGrown mid all → IsTypeTold g c d weights all i floor goal) → ((all : List ℕ) → IsGrown new all → AreLowersTold g c d weights all i below goal) → (all : List ℕ) → IsGrown new all → IsStateTold g c d weights all i
  state-told i floor goal below mid new floor_is below_is goal_is grown types lowers all later = record {
    goal = λ s is. subst (λ b. IsTypeTold g c d weights all i (number_of g weights i) b) (same s is) (subst (λ n. IsTypeTold g c d weights all i n goal) floor_is (types all (grown-trans mid new all grown later)));
    lowers = λ s is. subst (λ b. AreLowersTold g c d weights all i (number_of g weights i - coercion_weight g) b) (same s is) (subst (λ n. AreLowersTold g c d weights all i n goal) below_is (lowers all later));
  }
    where
      same : (s : State) → slice_get d.states i ≡ Some s → goal ≡ s.goal
      same s is = goal_is ∙ ap (λ (x : State). x.goal) (get_or_from_slice_get d.states i s (record { set = 0; goal = 0 }) is)

  -- all states, from the goal's on
  pub all-told : (old new : List ℕ) → old ≡ 0 ∷ [] → IsGrown old new → AreDistinct new → ((j : ℕ) → has j new ≡ true → j < length d.states) → ((j : ℕ) → has j new ≡ true → IsStateTold g c d weights new j) → AreAllTold g c d weights new
  all-told old new one grown distinct within each = record {
    first = grown 0 0 (ap (λ (l : List ℕ). slice_get l 0) one);
    distinct = distinct;
    within = within;
    each = each;
  }
