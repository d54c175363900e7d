-- The lists of the states, once nothing more can be marked.
use Rattle.std.proofs.Common.{◌≡◌, ◌⊎◌, inl, inr, ℕ, ◌+◌, ◌<◌, Bool, true, false, ◌||◌, ◌==◌, nat_eq, cond, List, [], ◌∷◌, map, filter, get_or, slice_get, Some, None, refl, sym, ap, subst, ◌∙◌, arith}
use Rattle.std.specs.List.{list_all}
use Rattle.std.specs.List.{AllByRecursion}
use Rattle.std.specs.Cmp.Lexicographic.{pointwise}
use Rattle.std.specs.Ordering.{on, eq_of_both}
use Rattle.std.proofs.lemmas.Bool.{false≢true, and_from, or_cases, or_left, or_right, eqb-true, eq-eqb}
use Rattle.std.proofs.lemmas.Cmp.{nat_list_eq_equiv}
use Rattle.number_places.specs.Places.{places_from}
use Rattle.succinct.specs.Compression.{AreDistinct}
use Rattle.succinct.specs.Sets.{has, IsRising}
use Rattle.succinct.specs.declared.kind.Succinct.{Succinct}
use Rattle.succinct.specs.declared.need.Need.{Need}
use Rattle.patterns.specs.declared.state.State.{State}
use Rattle.patterns.specs.declared.bound_set.BoundSet.{BoundSet}
use Rattle.patterns.specs.declared.wanted.Wanted.{Wanted}
use Rattle.patterns.specs.Met.{AreSound}
use Rattle.patterns.specs.Patterned.{IsListOf, AreFound, Patterned, sought_from, state_sought}
use Rattle.patterns.specs.States.{Space, kinds_of, kind_marked, needs_marked, need_marked, IsSettled, IsListed, IsOpenState, list_of, AreLists, state_place, place_in, place_sought, set_sought, AreWanted}
use Rattle.patterns.proofs.Mets.{ends_in, in_ends, sound-needs, complete-needs}
use Rattle.patterns.proofs.Tables.{remap}

has-filter : (test : ℕ → Bool) (ks : List ℕ) (k : ℕ) → has k (filter test ks) ≡ true → (has k ks ≡ true) × (test k ≡ true)
has-filter test [] k h = absurd (false≢true h)
has-filter test (j ∷ ks) k h = go (test j) refl h (λ h'. has-filter test ks k h')
  where
    go : (b : Bool) → test j ≡ b → has k (cond b (j ∷ filter test ks) (filter test ks)) ≡ true → (has k (filter test ks) ≡ true → (has k ks ≡ true) × (test k ≡ true)) → ((k == j) || has k ks ≡ true) × (test k ≡ true)
    go false e h' again = (let r = again h' in (or_right (k == j) (has k ks) r.0, r.1))
    go true e h' again = elim (or_cases (k == j) (has k (filter test ks)) h') [
      | inl here ↦ (or_left (k == j) (has k ks) here, ap test (eqb-true k j here) ∙ e)
      | inr there ↦ (let r = again there in (or_right (k == j) (has k ks) r.0, r.1))
    ]

in-filter : (test : ℕ → Bool) (ks : List ℕ) (k : ℕ) → has k ks ≡ true → test k ≡ true → has k (filter test ks) ≡ true
in-filter test [] k h t = absurd (false≢true h)
in-filter test (j ∷ ks) k h t = go (test j) refl (or_cases (k == j) (has k ks) h) (λ h'. in-filter test ks k h' t)
  where
    go : (b : Bool) → test j ≡ b → (k == j ≡ true) ⊎ (has k ks ≡ true) → (has k ks ≡ true → has k (filter test ks) ≡ true) → has k (cond b (j ∷ filter test ks) (filter test ks)) ≡ true
    go true e (inl here) again = or_left (k == j) (has k (filter test ks)) here
    go true e (inr there) again = or_right (k == j) (has k (filter test ks)) (again there)
    go false e (inl here) again = absurd (false≢true (sym e ∙ ap test (sym (eqb-true k j here)) ∙ t))
    go false e (inr there) again = again there

-- a number before the rest, where it passes a test
with_above : (x i : ℕ) (c : Bool) (rest : List ℕ) → x < i → AllByRecursion (λ y. x < y) rest → AllByRecursion (λ y. x < y) (cond c (i ∷ rest) rest)
with_above x i true rest low r = (low, r)
with_above x i false rest low r = r

with_rising : (i : ℕ) (c : Bool) (rest : List ℕ) → AllByRecursion (λ y. i < y) rest → IsRising rest → IsRising (cond c (i ∷ rest) rest)
with_rising i true rest above r = (above, r)
with_rising i false rest above r = r

-- places from i on are above what is below i, also where some are left out
above_places : (test : ℕ → Bool) (x i k : ℕ) (ns : List ℕ) → x < i → AllByRecursion (λ y. x < y) (filter test (places_from i k ns))
above_places test x i k [] low = tt
above_places test x i k (n ∷ ns) low = go (n == k) (above_places test x (i + 1) k ns (omega (arith, low)))
  where
    go : (b : Bool) → AllByRecursion (λ y. x < y) (filter test (places_from (i + 1) k ns)) → AllByRecursion (λ y. x < y) (filter test (cond b (i ∷ places_from (i + 1) k ns) (places_from (i + 1) k ns)))
    go true rest = with_above x i (test i) (filter test (places_from (i + 1) k ns)) low rest
    go false rest = rest

-- places that pass a test come in rising order
rising_places : (test : ℕ → Bool) (i k : ℕ) (ns : List ℕ) → IsRising (filter test (places_from i k ns))
rising_places test i k [] = tt
rising_places test i k (n ∷ ns) = go (n == k) (rising_places test (i + 1) k ns)
  where
    go : (b : Bool) → IsRising (filter test (places_from (i + 1) k ns)) → IsRising (filter test (cond b (i ∷ places_from (i + 1) k ns) (places_from (i + 1) k ns)))
    go true rest = with_rising i (test i) (filter test (places_from (i + 1) k ns)) (above_places test i (i + 1) k ns (omega arith)) rest
    go false rest = rest

-- the list by the marks is the list of the state
list-is : (p : Space) (kinds : List Succinct) (states : List State) (marks : List Bool) → AreDistinct states → ((s : State) → IsListed states s → IsOpenState p kinds states s (kinds_of kinds s.goal)) → IsSettled p kinds states marks → AreSound p kinds states marks
    → (s : State) → IsListed states s → IsListOf p kinds s (list_of p kinds states marks s)
list-is p kinds states marks distinct opens settled sound s listed = record {
  rising = rising_places (λ k. kind_marked p kinds states marks s k) 0 s.goal (map (λ k. k.result) kinds);
  only = λ k h. (
      let f = has-filter (λ j. kind_marked p kinds states marks s j) (kinds_of kinds s.goal) k h in
      let e = ends_in kinds s.goal k 0 f.0 in
      let same : k ≡ e.1 = (let q = e.2 in omega (arith, q)) in
      let found : slice_get kinds k ≡ Some e.0 = ap (slice_get kinds) same ∙ e.3 in
      let marked : needs_marked p states marks s (Some e.0) ≡ true = ap (needs_marked p states marks s) (sym found) ∙ f.1 in
      (e.0, found, e.4, sound-needs p kinds states marks sound s e.0.needs marked));
  all = λ k kind found gives met. (
      let z : 0 + k ≡ k = omega arith in
      let ends : has k (kinds_of kinds s.goal) ≡ true = ap (λ m. has m (kinds_of kinds s.goal)) (sym z) ∙ in_ends kinds s.goal k 0 kind found gives in
      let needs : list_all (λ n. need_marked p states marks s n) kind.needs ≡ true = complete-needs p kinds states marks distinct opens settled s kind.needs met (opens s listed k kind ends found) in
      in-filter (λ j. kind_marked p kinds states marks s j) (kinds_of kinds s.goal) k ends (ap (needs_marked p states marks s) found ∙ needs));
}

some_list : (a b : List ℕ) → Some a ≡ Some b → a ≡ b
some_list a b h = cc

pub lists-are : (p : Space) (kinds : List Succinct) (states : List State) (marks shown : List Bool) (lists : List (List ℕ)) → AreDistinct states → ((s : State) → IsListed states s → IsOpenState p kinds states s (kinds_of kinds s.goal)) → IsSettled p kinds states marks → AreSound p kinds states marks
    → shown ≡ marks → AreLists p kinds states shown states lists → (i : ℕ) (s : State) (list : List ℕ) → slice_get states i ≡ Some s → slice_get lists i ≡ Some list → IsListOf p kinds s list
lists-are p kinds states marks shown lists distinct opens settled sound same are i s list at is =
    let here : slice_get lists i ≡ Some (list_of p kinds states shown s) = ap (λ l. slice_get l i) are ∙ remap (λ t. list_of p kinds states shown t) states i s at in
    let one : list_of p kinds states marks s ≡ list = some_list (list_of p kinds states marks s) list (ap (λ m. Some (list_of p kinds states m s)) (sym same) ∙ sym here ∙ is) in
    subst (λ l. IsListOf p kinds s l) one (list-is p kinds states marks distinct opens settled sound s (i, at))

-- without a mark all marks are sound
pub sound-none : (p : Space) (kinds : List Succinct) (states : List State) (marks : List Bool) → ((i : ℕ) → get_or marks i false ≡ false) → AreSound p kinds states marks
sound-none p kinds states marks none i s at h = absurd (false≢true (sym (none i) ∙ h))

pub set-refl : (x : BoundSet) → eq_of_both (on (λ y. y.types) (pointwise nat_eq)) (on (λ y. y.left) nat_eq) x x ≡ true
set-refl x = and_from (pointwise nat_eq x.types x.types) (nat_eq x.left x.left) (nat_list_eq_equiv.refl x.types) (eq-eqb x.left x.left refl)

pub found-same : (p : Space) (kinds kinds' : List Succinct) (goal : ℕ) (states : List State) (lists : List (List ℕ)) → kinds ≡ kinds' → AreFound p kinds goal states lists → AreFound p kinds' goal states lists
found-same p kinds kinds' goal states lists same f = subst (λ k. AreFound p k goal states lists) same f

-- a need whose state isn't listed
pub none-sought : (d : Patterned) (s n : ℕ) (from : State) (w : Wanted) (to : ℕ) → slice_get d.states s ≡ Some from → slice_get d.space.wanted n ≡ Some w → set_sought d.space from.set w ≡ Some to → None ≡ state_place d.states (record { set = to; goal = w.goal }) → None ≡ state_sought d s n
none-sought d s n from w to at is sought none = none ∙ sym (ap (λ o. place_in d.states w.goal o) sought) ∙ sym (ap (place_sought d.space d.states from) is) ∙ sym (ap (λ o. sought_from d o n) at)

pub wanted-same : (needs needs' : List Need) (wanted : List Wanted) → needs ≡ needs' → AreWanted needs wanted → AreWanted needs' wanted
wanted-same needs needs' wanted same are = subst (λ n. AreWanted n wanted) same are
