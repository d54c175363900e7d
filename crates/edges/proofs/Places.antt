-- What stands in the list of places of a number.
use Rattle.std.proofs.Common.{◌≡◌, inl, inr, ℕ, zero, suc, ◌+◌, Bool, true, false, ◌==◌, cond, List, [], ◌∷◌, slice_get, Some, refl, sym, ap, ◌∙◌, arith}
use Rattle.std.proofs.lemmas.Bool.{false≢true, or_cases, or_left, or_right, eqb-true, eq-eqb}
use Rattle.number_places.specs.Places.{places_from}
use Rattle.succinct.specs.Sets.{has}
use Rattle.edges.proofs.Options.{some_eq}

-- what stands in the list of places of a number, and what doesn't
pub in-places : (k : ℕ) (ns : List ℕ) (i n : ℕ) → slice_get ns n ≡ Some k → has (i + n) (places_from i k ns) ≡ true
in-places k [] i n h = cc
in-places k (m ∷ ns) i zero h =
    let here : (m == k) ≡ true = eq-eqb m k (some_eq m k h) in
    let same : ((i + 0) == i) ≡ true = eq-eqb (i + 0) i (omega arith) in
    ap (λ b. has (i + 0) (cond b (i ∷ places_from (i + 1) k ns) (places_from (i + 1) k ns))) here ∙ or_left ((i + 0) == i) (has (i + 0) (places_from (i + 1) k ns)) same
in-places k (m ∷ ns) i (suc n) h = (let e : (i + 1) + n ≡ i + suc n = omega arith in go (m == k) (ap (λ x. has x (places_from (i + 1) k ns)) (sym e) ∙ in-places k ns (i + 1) n h))
  where
    go : (b : Bool) → has (i + suc n) (places_from (i + 1) k ns) ≡ true → has (i + suc n) (cond b (i ∷ places_from (i + 1) k ns) (places_from (i + 1) k ns)) ≡ true
    go true later = or_right ((i + suc n) == i) (has (i + suc n) (places_from (i + 1) k ns)) later
    go false later = later

pub from-places : (k : ℕ) (ns : List ℕ) (i x : ℕ) → has x (places_from i k ns) ≡ true → (n : ℕ) × (x ≡ i + n) × (slice_get ns n ≡ Some k)
from-places k [] i x h = absurd (false≢true h)
from-places k (m ∷ ns) i x h = go (λ h'. (let r = from-places k ns (i + 1) x h' in let e = r.1 in (suc r.0, omega (arith, e), r.2))) (m == k) refl h
  where
    go : (has x (places_from (i + 1) k ns) ≡ true → (n : ℕ) × (x ≡ i + n) × (slice_get (m ∷ ns) n ≡ Some k)) → (b : Bool) → (m == k) ≡ b → has x (cond b (i ∷ places_from (i + 1) k ns) (places_from (i + 1) k ns)) ≡ true → (n : ℕ) × (x ≡ i + n) × (slice_get (m ∷ ns) n ≡ Some k)
    go later false e h' = later h'
    go later true e h' = elim (or_cases (x == i) (has x (places_from (i + 1) k ns)) h') [
      | inl here ↦ (let q = eqb-true x i here in (0, omega (arith, q), ap (λ y. Some y) (eqb-true m k e)))
      | inr there ↦ later there
    ]
