-- Marks are sound, and complete once nothing more can be marked.
use Rattle.std.proofs.Common.{◌≡◌, inl, inr, ℕ, zero, suc, ◌+◌, ◌<◌, Bool, true, false, ◌&&◌, ◌==◌, cond, List, [], ◌∷◌, length, map, get_or, set, slice_get, Option, Some, None, refl, sym, ap, subst, ◌∙◌, arith}
use Rattle.std.specs.List.{list_all, list_any}
use Rattle.std.proofs.lemmas.Bool.{false≢true, and_parts, and_from, or_cases, or_left, or_right, eqb-true, eq-eqb, cases_eq, cases_lt, lt-ltb}
use Rattle.std.proofs.lemmas.List.{get_or-set_other}
use Rattle.std.proofs.lemmas.List.Quantifiers.{position-Some}
use Rattle.std.proofs.lemmas.List.Sums.{position_or_len_is}
use Rattle.std.proofs.Common.{nat_lt}
use Rattle.std.specs.List.{position_or_len}
use Rattle.std.proofs.lemmas.Option.{slice_get-get_or, slice_get_within, get_or_from_slice_get}
use Rattle.number_places.specs.Places.{places_from}
use Rattle.succinct.specs.Compression.{AreDistinct}
use Rattle.succinct.specs.Numbering.{IsGrown}
use Rattle.succinct.specs.Sets.{has}
use Rattle.succinct.specs.declared.kind.Succinct.{Succinct}
use Rattle.patterns.specs.declared.state.State.{State}
use Rattle.patterns.specs.declared.wanted.Wanted.{Wanted}
use Rattle.patterns.specs.States.{Space, types_at, set_sought, state_place, place_in, place_sought, marked_at, need_marked, needs_marked, kind_marked, kinds_of, is_seen, IsSettled, IsListed, IsOpenKind, IsOpenState}
use Rattle.patterns.specs.Met.{IsMet, by_set, by_kind, AreMet, met_none, met_more, AreSound}

same_state : (s t : State) → (s.set == t.set) && (s.goal == t.goal) ≡ true → s ≡ t
same_state s t h =
    let both = and_parts (s.set == t.set) (s.goal == t.goal) h in
    let a : s.set ≡ t.set = eqb-true s.set t.set both.0 in
    let b : s.goal ≡ t.goal = eqb-true s.goal t.goal both.1 in
    ap (λ n. record { set = n; goal = s.goal }) a ∙ ap (λ n. record { set = t.set; goal = n }) b

-- what a place found among the states holds
pub state_place-get : (states : List State) (s : State) (t : ℕ) → state_place states s ≡ Some t → slice_get states t ≡ Some s
state_place-get states s t h =
    let found = position-Some (λ x. (s.set == x.set) && (s.goal == x.goal)) states t s h in
    slice_get-get_or states t s found.0 ∙ ap (λ x. Some x) (sym (same_state s (get_or states t s) found.1))

pub self_state : (s : State) → (s.set == s.set) && (s.goal == s.goal) ≡ true
self_state s = and_from (s.set == s.set) (s.goal == s.goal) (eq-eqb s.set s.set refl) (eq-eqb s.goal s.goal refl)

-- a listed state is found at its place
pub state_place-is : (states : List State) (s : State) (t : ℕ) → AreDistinct states → slice_get states t ≡ Some s → state_place states s ≡ Some t
state_place-is states s t d h =
    let low : t < length states = slice_get_within states t s h in
    let truth : (s.set == (get_or states t s).set) && (s.goal == (get_or states t s).goal) ≡ true = ap (λ x. (s.set == x.set) && (s.goal == x.goal)) (get_or_from_slice_get states t s s h) ∙ self_state s in
    let at : position_or_len (λ x. (s.set == x.set) && (s.goal == x.goal)) states ≡ t = position_or_len_is (λ x. (s.set == x.set) && (s.goal == x.goal)) states t s (omega (arith, low)) (λ k less. before k less low ((s.set == (get_or states k s).set) && (s.goal == (get_or states k s).goal)) refl) (λ l. truth) in
    ap (λ n. cond (nat_lt n (length states)) (Some n) None) at ∙ ap (λ b. cond b (Some t) None) (lt-ltb t (length states) low)
  where
    before : (k : ℕ) → k < t → t < length states → (b : Bool) → (s.set == (get_or states k s).set) && (s.goal == (get_or states k s).goal) ≡ b → b ≡ false
    before k less low false e = refl
    before k less low true e =
        let same : s ≡ get_or states k s = same_state s (get_or states k s) e in
        let here : slice_get states k ≡ Some s = slice_get-get_or states k s (omega (arith, less, low)) ∙ ap (λ x. Some x) (sym same) in
        let one : k ≡ t = d k t s here h in
        absurd (omega (arith, one, less))

-- a kind of the list that ends in a type does end in it
pub ends_in : (kinds : List Succinct) (goal k i : ℕ) → has k (places_from i goal (map (λ x. x.result) kinds)) ≡ true → (kind : Succinct) × (j : ℕ) × (k ≡ i + j) × (slice_get kinds j ≡ Some kind) × (kind.result ≡ goal)
ends_in [] goal k i h = absurd (false≢true h)
ends_in (x ∷ kinds) goal k i h = go (x.result == goal) refl h (λ h'. ends_in kinds goal k (i + 1) h')
  where
    later : ((kind : Succinct) × (j : ℕ) × (k ≡ i + 1 + j) × (slice_get kinds j ≡ Some kind) × (kind.result ≡ goal)) → (kind : Succinct) × (j : ℕ) × (k ≡ i + j) × (slice_get (x ∷ kinds) j ≡ Some kind) × (kind.result ≡ goal)
    later r = (let e = r.2 in (r.0, suc r.1, omega (arith, e), r.3, r.4))

    go : (b : Bool) → (x.result == goal) ≡ b → has k (cond b (i ∷ places_from (i + 1) goal (map (λ y. y.result) kinds)) (places_from (i + 1) goal (map (λ y. y.result) kinds))) ≡ true
        → (has k (places_from (i + 1) goal (map (λ y. y.result) kinds)) ≡ true → (kind : Succinct) × (j : ℕ) × (k ≡ i + 1 + j) × (slice_get kinds j ≡ Some kind) × (kind.result ≡ goal))
        → (kind : Succinct) × (j : ℕ) × (k ≡ i + j) × (slice_get (x ∷ kinds) j ≡ Some kind) × (kind.result ≡ goal)
    go false e h' again = later (again h')
    go true e h' again = elim (or_cases (k == i) (has k (places_from (i + 1) goal (map (λ y. y.result) kinds))) h') [
      | inl here ↦ (let same = eqb-true k i here in (x, 0, omega (arith, same), refl, eqb-true x.result goal e))
      | inr there ↦ later (again there)
    ]

pub in_ends : (kinds : List Succinct) (goal j i : ℕ) (kind : Succinct) → slice_get kinds j ≡ Some kind → kind.result ≡ goal → has (i + j) (places_from i goal (map (λ x. x.result) kinds)) ≡ true
in_ends [] goal j i kind h e = cc
in_ends (x ∷ kinds) goal zero i kind h e =
    let same : x ≡ kind = cc in
    let b : (x.result == goal) ≡ true = eq-eqb x.result goal (ap (λ y. y.result) same ∙ e) in
    let rest : List ℕ = places_from (i + 1) goal (map (λ y. y.result) kinds) in
    let z : i + 0 ≡ i = omega arith in
    ap (λ c. has (i + 0) (cond c (i ∷ rest) rest)) b ∙ or_left (i + 0 == i) (has (i + 0) rest) (eq-eqb (i + 0) i z)
in_ends (x ∷ kinds) goal (suc j) i kind h e =
    let rest : List ℕ = places_from (i + 1) goal (map (λ y. y.result) kinds) in
    let m : i + suc j ≡ i + 1 + j = omega arith in
    go (x.result == goal) (ap (λ n. has n rest) m ∙ in_ends kinds goal j (i + 1) kind h e)
  where
    go : (b : Bool) → has (i + suc j) (places_from (i + 1) goal (map (λ y. y.result) kinds)) ≡ true → has (i + suc j) (cond b (i ∷ places_from (i + 1) goal (map (λ y. y.result) kinds)) (places_from (i + 1) goal (map (λ y. y.result) kinds))) ≡ true
    go false h' = h'
    go true h' = or_right (i + suc j == i) (has (i + suc j) (places_from (i + 1) goal (map (λ y. y.result) kinds))) h'

-- one need that is seen to be met is met
sound-need : (p : Space) (kinds : List Succinct) (states : List State) (marks : List Bool) → AreSound p kinds states marks → (s : State) (n : ℕ) → need_marked p states marks s n ≡ true → (w : Wanted) × (to : ℕ) × (slice_get p.wanted n ≡ Some w) × (set_sought p s.set w ≡ Some to) × IsMet p kinds (record { set = to; goal = w.goal })
sound-need p kinds states marks sound s n h = go (slice_get p.wanted n) refl h
  where
    at_set : (w : Wanted) → slice_get p.wanted n ≡ Some w → (o : Option ℕ) → set_sought p s.set w ≡ o → marked_at marks (place_in states w.goal o) ≡ true → (w' : Wanted) × (to : ℕ) × (slice_get p.wanted n ≡ Some w') × (set_sought p s.set w' ≡ Some to) × IsMet p kinds (record { set = to; goal = w'.goal })
    at_set w is None e h' = absurd (false≢true h')
    at_set w is (Some to) e h' = at_place (state_place states (record { set = to; goal = w.goal })) refl h'
      where
        at_place : (o : Option ℕ) → state_place states (record { set = to; goal = w.goal }) ≡ o → marked_at marks o ≡ true → (w' : Wanted) × (to' : ℕ) × (slice_get p.wanted n ≡ Some w') × (set_sought p s.set w' ≡ Some to') × IsMet p kinds (record { set = to'; goal = w'.goal })
        at_place None e' h'' = absurd (false≢true h'')
        at_place (Some t) e' h'' = (w, to, is, e, sound t (record { set = to; goal = w.goal }) (state_place-get states (record { set = to; goal = w.goal }) t e') h'')

    go : (o : Option Wanted) → slice_get p.wanted n ≡ o → marked_at marks (place_sought p states s o) ≡ true → (w : Wanted) × (to : ℕ) × (slice_get p.wanted n ≡ Some w) × (set_sought p s.set w ≡ Some to) × IsMet p kinds (record { set = to; goal = w.goal })
    go None e h' = absurd (false≢true h')
    go (Some w) e h' = at_set w e (set_sought p s.set w) refl h'

pub sound-needs : (p : Space) (kinds : List Succinct) (states : List State) (marks : List Bool) → AreSound p kinds states marks → (s : State) (ns : List ℕ) → list_all (λ n. need_marked p states marks s n) ns ≡ true → AreMet p kinds s ns
sound-needs p kinds states marks sound s [] h = met_none s
sound-needs p kinds states marks sound s (n ∷ ns) h =
    let both = and_parts (need_marked p states marks s n) (list_all (λ m. need_marked p states marks s m) ns) h in
    let first = sound-need p kinds states marks sound s n both.0 in
    met_more s n ns first.0 first.1 first.2 first.3 first.4 (sound-needs p kinds states marks sound s ns both.1)

pub some_member : (test : ℕ → Bool) (ks : List ℕ) → list_any test ks ≡ true → (k : ℕ) × (has k ks ≡ true) × (test k ≡ true)
some_member test [] h = absurd (false≢true h)
some_member test (k ∷ ks) h = elim (or_cases (test k) (list_any test ks) h) [
  | inl here ↦ (k, or_left (k == k) (has k ks) (eq-eqb k k refl), here)
  | inr there ↦ (let r = some_member test ks there in (r.0, or_right (r.0 == k) (has r.0 ks) r.1, r.2))
]

pub any_member : (test : ℕ → Bool) (ks : List ℕ) (k : ℕ) → has k ks ≡ true → test k ≡ true → list_any test ks ≡ true
any_member test [] k h t = absurd (false≢true h)
any_member test (j ∷ ks) k h t = elim (or_cases (k == j) (has k ks) h) [
  | inl here ↦ or_left (test j) (list_any test ks) (ap test (sym (eqb-true k j here)) ∙ t)
  | inr there ↦ or_right (test j) (list_any test ks) (any_member test ks k there t)
]

-- a state that is seen to be inhabited is met
pub sound-seen : (p : Space) (kinds : List Succinct) (states : List State) (marks : List Bool) → AreSound p kinds states marks → (s : State) → is_seen p kinds states marks s ≡ true → IsMet p kinds s
sound-seen p kinds states marks sound s h = elim (or_cases (has s.goal (types_at p s.set)) (list_any (λ k. kind_marked p kinds states marks s k) (kinds_of kinds s.goal)) h) [
  | inl in_set ↦ by_set s in_set
  | inr some ↦ (
      let m = some_member (λ k. kind_marked p kinds states marks s k) (kinds_of kinds s.goal) some in
      let e = ends_in kinds s.goal m.0 0 m.1 in
      let same : m.0 ≡ e.1 = (let q = e.2 in omega (arith, q)) in
      let found : slice_get kinds m.0 ≡ Some e.0 = ap (slice_get kinds) same ∙ e.3 in
      let marked : needs_marked p states marks s (Some e.0) ≡ true = ap (needs_marked p states marks s) (sym found) ∙ m.2 in
      by_kind s m.0 e.0 found e.4 (sound-needs p kinds states marks sound s e.0.needs marked))
]

-- one mark more
pub sound-set : (p : Space) (kinds : List Succinct) (states : List State) (marks marks' : List Bool) (i : ℕ) (s : State) → AreSound p kinds states marks → slice_get states i ≡ Some s → is_seen p kinds states marks s ≡ true → marks' ≡ set marks i true → AreSound p kinds states marks'
sound-set p kinds states marks marks' i s sound at seen is j t at' marked = elim (cases_eq j i) [
  | inl same ↦ (let e : Some s ≡ Some t = sym at ∙ ap (slice_get states) (sym same) ∙ at' in let e' : s ≡ t = cc in subst (λ x. IsMet p kinds x) e' (sound-seen p kinds states marks sound s seen))
  | inr apart ↦ sound j t at' (sym (ap (λ l. get_or l j false) is ∙ get_or-set_other marks i j true false apart) ∙ marked)
]

-- where nothing more can be marked, each need that is met is seen to be
module _ (p : Space) (kinds : List Succinct) (states : List State) (marks : List Bool) (distinct : AreDistinct states)
    (open_all : (s : State) → IsListed states s → IsOpenState p kinds states s (kinds_of kinds s.goal)) (settled : IsSettled p kinds states marks) where
  mutual
    pub complete : (s : State) → IsMet p kinds s → (i : ℕ) → slice_get states i ≡ Some s → get_or marks i false ≡ true
    complete s (by_set s' h) i at = settled i s at (or_left (has s.goal (types_at p s.set)) (list_any (λ k. kind_marked p kinds states marks s k) (kinds_of kinds s.goal)) h)
    complete s (by_kind s' k kind found gives all) i at =
        let z : 0 + k ≡ k = omega arith in
        let ends : has k (kinds_of kinds s.goal) ≡ true = ap (λ m. has m (kinds_of kinds s.goal)) (sym z) ∙ in_ends kinds s.goal k 0 kind found gives in
        let opens : IsOpenKind p states s kind.needs = open_all s (i, at) k kind ends found in
        let needs : list_all (λ n. need_marked p states marks s n) kind.needs ≡ true = complete-needs s kind.needs all opens in
        settled i s at (or_right (has s.goal (types_at p s.set)) (list_any (λ j. kind_marked p kinds states marks s j) (kinds_of kinds s.goal))
        (any_member (λ j. kind_marked p kinds states marks s j) (kinds_of kinds s.goal) k ends (ap (needs_marked p states marks s) found ∙ needs)))

    pub complete-needs : (s : State) (ns : List ℕ) → AreMet p kinds s ns → IsOpenKind p states s ns → list_all (λ n. need_marked p states marks s n) ns ≡ true
    complete-needs s ns (met_none s') opens = refl
    complete-needs s ns (met_more s' n ns' w to is sought met rest) opens =
        let listed : IsListed states (record { set = to; goal = w.goal }) = opens n (or_left (n == n) (has n ns') (eq-eqb n n refl)) w to is sought in
        let mark : get_or marks listed.0 false ≡ true = complete (record { set = to; goal = w.goal }) met listed.0 listed.1 in
        let place : state_place states (record { set = to; goal = w.goal }) ≡ Some listed.0 = state_place-is states (record { set = to; goal = w.goal }) listed.0 distinct listed.1 in
        let here : need_marked p states marks s n ≡ true = ap (λ o. marked_at marks (place_sought p states s o)) is ∙ ap (λ o. marked_at marks (place_in states w.goal o)) sought ∙ ap (marked_at marks) place ∙ mark in
        and_from (need_marked p states marks s n) (list_all (λ m. need_marked p states marks s m) ns') here (complete-needs s ns' rest (λ m h. opens m (or_right (m == n) (has m ns') h)))

-- what is open stays open while the states grow
pub open-grown : (p : Space) (kinds : List Succinct) (old new : List State) (s : State) (ending : List ℕ) → IsGrown old new → IsOpenState p kinds old s ending → IsOpenState p kinds new s ending
open-grown p kinds old new s ending grown opens k kind in_ending found n in_needs w to is sought =
    let listed = opens k kind in_ending found n in_needs w to is sought in
    (listed.0, grown listed.0 (record { set = to; goal = w.goal }) listed.1)

-- one state more is open
pub open-more : (p : Space) (kinds : List Succinct) (old new : List State) (i : ℕ) (from : State) → i < length old → slice_get old i ≡ Some from → IsGrown old new
    → ((j : ℕ) (s : State) → j < i → slice_get old j ≡ Some s → IsOpenState p kinds old s (kinds_of kinds s.goal)) → IsOpenState p kinds new from (kinds_of kinds from.goal)
    → (j : ℕ) (s : State) → j < i + 1 → slice_get new j ≡ Some s → IsOpenState p kinds new s (kinds_of kinds s.goal)
open-more p kinds old new i from low at grown before here j s less is = elim (cases_eq j i) [
  | inl same ↦ (
      let e : Some from ≡ Some s = sym (grown i from at) ∙ ap (slice_get new) (sym same) ∙ is in
      let e' : from ≡ s = cc in
      subst (λ x. IsOpenState p kinds new x (kinds_of kinds x.goal)) e' here)
  | inr apart ↦ elim (cases_lt j i) [
    | inl below ↦ (
        let was : slice_get old j ≡ Some (get_or old j from) = slice_get-get_or old j from (omega (arith, below, low)) in
        let now : slice_get new j ≡ Some (get_or old j from) = grown j (get_or old j from) was in
        let e : Some (get_or old j from) ≡ Some s = sym now ∙ is in
        let e' : get_or old j from ≡ s = cc in
        let was' : slice_get old j ≡ Some s = was ∙ ap (λ x. Some x) e' in
        open-grown p kinds old new s (kinds_of kinds s.goal) grown (before j s below was'))
    | inr above ↦ absurd (apart (omega (arith, above, less)))
  ]
]

-- the mark of a state that is seen to be inhabited keeps marks sound
pub sound-mark : (p : Space) (kinds : List Succinct) (states keys : List State) (marks shown : List Bool) (place : ℕ) (d from : State) (r : Bool) → keys ≡ states → shown ≡ marks → from ≡ get_or keys place d → place < length states
    → r ≡ is_seen p kinds states shown from → r ≡ true → AreSound p kinds states marks → AreSound p kinds states (set marks place true)
sound-mark p kinds states keys marks shown place d from r same view at low answer said sound =
    let found : slice_get states place ≡ Some from = slice_get-get_or states place d low ∙ ap (λ l. Some (get_or l place d)) (sym same) ∙ ap (λ x. Some x) (sym at) in
    let seen : is_seen p kinds states marks from ≡ true = ap (λ m. is_seen p kinds states m from) (sym view) ∙ sym answer ∙ said in
    sound-set p kinds states marks (set marks place true) place from sound found seen refl

-- the next state is open, and those before it still are
pub open-next : (p : Space) (kinds : List Succinct) (old keys new : List State) (shown : List ℕ) (i : ℕ) (d from : State) → i < length old → keys ≡ old → from ≡ get_or keys i d → IsGrown old new
    → ((j : ℕ) (s : State) → j < i → slice_get old j ≡ Some s → IsOpenState p kinds old s (kinds_of kinds s.goal)) → shown ≡ kinds_of kinds from.goal → IsOpenState p kinds new from shown
    → (j : ℕ) (s : State) → j < i + 1 → slice_get new j ≡ Some s → IsOpenState p kinds new s (kinds_of kinds s.goal)
open-next p kinds old keys new shown i d from low same at grown before ends here =
    let found : slice_get old i ≡ Some from = slice_get-get_or old i d low ∙ ap (λ l. Some (get_or l i d)) (sym same) ∙ ap (λ x. Some x) (sym at) in
    open-more p kinds old new i from low found grown before (subst (λ l. IsOpenState p kinds new from l) ends here)

pub grown-trans : {X : Type 0} (a b c : List X) → IsGrown a b → IsGrown b c → IsGrown a c
grown-trans a b c p q i x h = q i x (p i x h)
