-- Heaps of keyed items, seen as pairs of key and item.
use Rattle.std.proofs.Common.{◌≡◌, inl, inr, ℕ, ◌≤◌, false, List, [], ◌∷◌, map, All, refl, sym, ◌∙◌, Result, Ok, Err, OnOk, IsOk}
use Rattle.std.specs.List.{AllByRecursion}
use Rattle.std.specs.List.Sorted.{IsPermutation}
use Rattle.std.specs.Ordering.{nat_cmp, is_lt, on, flip_args}
use Rattle.std.proofs.lemmas.Bool.{cases_lt, lt-ltb, false≢true}
use Rattle.std.proofs.lemmas.List.Elements.{All-nil, All-cons}
use Rattle.std.proofs.lemmas.List.Sorted.{IsPermutation-map}
use Rattle.weight_queue.specs.declared.keyed.Keyed.{Keyed}

-- a keyed item as the contracts see it
abbrev pub pair : {T : Type 0} → Keyed T → ℕ × T
pair k = (k.key, k.item)

le_from_order : (a b : ℕ) → is_lt (nat_cmp b a) ≡ false → a ≤ b
le_from_order a b h = elim (cases_lt b a) [
  | inl less ↦ absurd (false≢true (sym h ∙ rw (lt-ltb b a less) refl))
  | inr more ↦ more
]

-- what isn't above the top of the heap has no lesser key
pub above : {T : Type 0} (x : Keyed T) (xs : List (Keyed T)) → AllByRecursion (λ y. is_lt (flip_args (on (λ (k : Keyed T). k.key) nat_cmp) x y) ≡ false) xs → All (λ q. x.key ≤ q.0) (map pair xs)
above {T} x [] h = All-nil (λ (q : ℕ × T). x.key ≤ q.0)
above {T} x (y ∷ ys) h = All-cons (λ (q : ℕ × T). x.key ≤ q.0) (pair y) (map pair ys) (le_from_order x.key y.key h.0) (above x ys h.1)

-- a push that succeeds adds its item
pub pushed : {T E : Type 0} (r : Result (Unit {0}) E) (x : Keyed T) (old new : List (Keyed T)) → IsOk r → OnOk r (IsPermutation (x ∷ old) new) → IsPermutation (pair x ∷ map pair old) (map pair new)
pushed (Ok u) x old new is h = IsPermutation-map pair (x ∷ old) new h
pushed (Err e) x old new is h = absurd (false≢true is)
