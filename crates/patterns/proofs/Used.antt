-- The uses of the states while they are gathered.
use Rattle.std.proofs.Common.{◌≡◌, ◌⊎◌, inl, inr, ℕ, ◌+◌, ◌<◌, ◌≤◌, true, ◌==◌, List, [], ◌∷◌, ◌++◌, length, map, take, get_or, slice_get, Some, refl, sym, ap, subst, ◌∙◌, arith}
use Rattle.std.proofs.lemmas.Bool.{or_cases, eqb-true, cases_eq}
use Rattle.std.proofs.lemmas.List.{take_more}
use Rattle.std.proofs.lemmas.Option.{slice_get-get_or, slice_get_within}
use Rattle.succinct.specs.Numbering.{IsGrown}
use Rattle.succinct.specs.Sets.{has}
use Rattle.succinct.specs.declared.kind.Succinct.{Succinct}
use Rattle.succinct.proofs.Needs.{has-push}
use Rattle.succinct.proofs.Numberings.{get_append}
use Rattle.patterns.specs.States.{Space, place_sought, kinds_of}
use Rattle.patterns.specs.Worklist.{IsAmong, AreTargets, AreUsedBy, AreUses, needs_of}
use Rattle.patterns.specs.declared.state.State.{State}
use Rattle.patterns.specs.declared.watchers.Use.{Use}
use Rattle.patterns.proofs.Mets.{in_ends}
use Rattle.patterns.proofs.Tables.{unmap}

-- one number more at the end of those that were gone through
next : (xs : List ℕ) (i x d m : ℕ) → i < length xs → x ≡ get_or xs i d → has m (take (i + 1) xs) ≡ true → (has m (take i xs) ≡ true) ⊎ (m ≡ x)
next xs i x d m low at h = elim (or_cases (has m (take i xs)) (m == x) (sym (ap (has m) (take_more xs i d low ∙ ap (λ y. take i xs ++ y ∷ []) (sym at)) ∙ has-push m (take i xs) x) ∙ h)) [
  | inl before ↦ inl before
  | inr last ↦ inr (eqb-true m x last)
]

among-grown : (old new : List Use) (one : Use) → IsGrown old new → IsAmong old one → IsAmong new one
among-grown old new one grown a = (a.0, grown a.0 one a.1)

-- the uses by one need more
pub used-more : (p : Space) (states : List State) (old new : List Use) (s : State) (place k : ℕ) (needs : List ℕ) (i n d : ℕ) → i < length needs → n ≡ get_or needs i d → IsGrown old new
    → ((j : ℕ) → place_sought p states s (slice_get p.wanted n) ≡ Some j → IsAmong new (record { target = j; place = place; kind = k })) → AreUsedBy p states old s place k (take i needs) → AreUsedBy p states new s place k (take (i + 1) needs)
used-more p states old new s place k needs i n d low at grown here before m j h sought = elim (next needs i n d m low at h) [
  | inl was ↦ among-grown old new (record { target = j; place = place; kind = k }) grown (before m j was sought)
  | inr last ↦ here j (ap (λ x. place_sought p states s (slice_get p.wanted x)) (sym last) ∙ sought)
]

-- the uses by one kind more
pub used-kinds : (p : Space) (kinds : List Succinct) (states : List State) (shown : List ℕ) (old new : List Use) (s : State) (place : ℕ) (ending : List ℕ) (i n d : ℕ) → i < length ending → n ≡ get_or ending i d → IsGrown old new
    → shown ≡ needs_of (slice_get kinds n) → AreUsedBy p states new s place n shown
    → ((k : ℕ) (kind : Succinct) → has k (take i ending) ≡ true → slice_get kinds k ≡ Some kind → AreUsedBy p states old s place k kind.needs)
    → (k : ℕ) (kind : Succinct) → has k (take (i + 1) ending) ≡ true → slice_get kinds k ≡ Some kind → AreUsedBy p states new s place k kind.needs
used-kinds p kinds states shown old new s place ending i n d low at grown is here before k kind h found m j in_needs sought = elim (next ending i n d k low at h) [
  | inl was ↦ among-grown old new (record { target = j; place = place; kind = k }) grown (before k kind was found m j in_needs sought)
  | inr last ↦ (
      let needs : shown ≡ kind.needs = is ∙ ap needs_of (ap (slice_get kinds) (sym last) ∙ found) in
      let one = here m j (ap (has m) needs ∙ in_needs) sought in
      subst (λ x. IsAmong new (record { target = j; place = place; kind = x })) (sym last) one)
]

-- the uses by one state more
pub used-states : (p : Space) (kinds : List Succinct) (states : List State) (shown : List ℕ) (old new : List Use) (i : ℕ) (from : State) → slice_get states i ≡ Some from → IsGrown old new → shown ≡ kinds_of kinds from.goal
    → ((k : ℕ) (kind : Succinct) → has k shown ≡ true → slice_get kinds k ≡ Some kind → AreUsedBy p states new from i k kind.needs)
    → ((place k : ℕ) (s : State) (kind : Succinct) → place < i → slice_get states place ≡ Some s → slice_get kinds k ≡ Some kind → kind.result ≡ s.goal → AreUsedBy p states old s place k kind.needs)
    → (place k : ℕ) (s : State) (kind : Succinct) → place < i + 1 → slice_get states place ≡ Some s → slice_get kinds k ≡ Some kind → kind.result ≡ s.goal → AreUsedBy p states new s place k kind.needs
used-states p kinds states shown old new i from is grown ends here before place k s kind less at found gives m j in_needs sought = elim (cases_eq place i) [
  | inl same ↦ (
      let e : Some from ≡ Some s = sym is ∙ ap (slice_get states) (sym same) ∙ at in
      let state : from ≡ s = cc in
      let z : 0 + k ≡ k = omega arith in
      let ending : has k shown ≡ true = ap (has k) (ends ∙ ap (λ t. kinds_of kinds t.goal) state) ∙ ap (λ x. has x (kinds_of kinds s.goal)) (sym z) ∙ in_ends kinds s.goal k 0 kind found gives in
      let one = here k kind ending found m j in_needs (ap (λ t. place_sought p states t (slice_get p.wanted m)) state ∙ sought) in
      subst (λ x. IsAmong new (record { target = j; place = x; kind = k })) (sym same) one)
  | inr apart ↦ among-grown old new (record { target = j; place = place; kind = k }) grown (before place k s kind (omega (arith, less, apart)) at found gives m j in_needs sought)
]

pub used-all : (p : Space) (kinds : List Succinct) (states : List State) (uses : List Use) (count : ℕ) → length states ≤ count
    → ((place k : ℕ) (s : State) (kind : Succinct) → place < count → slice_get states place ≡ Some s → slice_get kinds k ≡ Some kind → kind.result ≡ s.goal → AreUsedBy p states uses s place k kind.needs) → AreUses p kinds states uses
used-all p kinds states uses count past all place k s kind at = all place k s kind (let w = slice_get_within states place s at in omega (arith, w, past)) at

-- a use is added
pub used-pushed : (uses uses' : List Use) (j place kind : ℕ) → uses' ≡ uses ++ record { target = j; place = place; kind = kind } ∷ [] → IsAmong uses' (record { target = j; place = place; kind = kind })
used-pushed uses uses' j place kind is = (length uses, ap (λ l. slice_get l (length uses)) is ∙ last uses (record { target = j; place = place; kind = kind }))
  where
    last : (xs : List Use) (x : Use) → slice_get (xs ++ x ∷ []) (length xs) ≡ Some x
    last [] x = refl
    last (y ∷ xs) x = last xs x

pub grown-pushed : (uses uses' : List Use) (one : Use) → uses' ≡ uses ++ one ∷ [] → IsGrown uses uses'
grown-pushed uses uses' one is i x h = ap (λ l. slice_get l i) is ∙ get_append uses (one ∷ []) i x h

-- the numbers of the states that are used are numbers of states
pub targets-in_range : (count : ℕ) (uses : List Use) (shown targets : List ℕ) → AreTargets count uses → targets ≡ map (λ (u : Use). u.target) uses → shown ≡ targets → (i k : ℕ) → slice_get shown i ≡ Some k → k < count
targets-in_range count uses shown targets are value same i k at =
    let u = unmap (λ (x : Use). x.target) uses i k (ap (λ l. slice_get l i) (sym (same ∙ value)) ∙ at) in
    subst (λ x. x < count) u.2 (are i u.0 u.1)

pub state-at : (states keys : List State) (place : ℕ) (d from : State) → keys ≡ states → from ≡ get_or keys place d → place < length states → slice_get states place ≡ Some from
state-at states keys place d from same at low = slice_get-get_or states place d low ∙ ap (λ l. Some (get_or l place d)) (sym same) ∙ ap (λ x. Some x) (sym at)

pub used-kinds-all : (p : Space) (kinds : List Succinct) (states : List State) (uses : List Use) (s : State) (place : ℕ) (ending ending' : List ℕ) → ending ≡ ending' → ((k : ℕ) (kind : Succinct) → has k ending ≡ true → slice_get kinds k ≡ Some kind → AreUsedBy p states uses s place k kind.needs)
    → (k : ℕ) (kind : Succinct) → has k ending' ≡ true → slice_get kinds k ≡ Some kind → AreUsedBy p states uses s place k kind.needs
used-kinds-all p kinds states uses s place ending ending' same all k kind h = all k kind (ap (has k) same ∙ h)
