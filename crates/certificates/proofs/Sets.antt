-- The checker's sets are those of the search.
use Rattle.std.proofs.Common.{◌≡◌, inl, inr, ◌⊎◌, ℕ, zero, suc, ◌+◌, ◌≤◌, ◌<◌, ◌≢◌, true, false, ◌==◌, cond, List, [], ◌∷◌, length, refl, sym, ap, subst, ◌∙◌, ⊎_elim, arith}
use Rattle.std.specs.Prelude.{nat_lt, slice_index}
use Rattle.std.specs.List.{AllByRecursion}
use Rattle.std.specs.List.Sorted.{IsStrictlyIncreasing}
use Rattle.std.proofs.lemmas.Bool.{cases_lt, cases_eq, lt-ltb, le-ltb, le-leb, lt-leb, eq-eqb, ne_eqb, eqb-true, or_left, or_right}
use Rattle.terms.specs.Table as table
use Rattle.succinct.specs.Sets.{has, put, joined_with, IsRising}
use Rattle.checker.specs.Floors.{with_type, with_types}
use Rattle.checker.proofs.TypeSets.{with_same, with_less, with_more, has_tail, no_has}

put-less : (a b : ℕ) (set : List ℕ) → nat_lt a b ≡ true → put a (b ∷ set) ≡ a ∷ b ∷ set
put-less a b set l = ap (λ t. cond t (a ∷ b ∷ set) (cond (a == b) (b ∷ set) (b ∷ put a set))) l

put-same : (a b : ℕ) (set : List ℕ) → nat_lt a b ≡ false → (a == b) ≡ true → put a (b ∷ set) ≡ b ∷ set
put-same a b set l e = ap (λ t. cond t (a ∷ b ∷ set) (cond (a == b) (b ∷ set) (b ∷ put a set))) l ∙ ap (λ t. cond t (b ∷ set) (b ∷ put a set)) e

put-more : (a b : ℕ) (set : List ℕ) → nat_lt a b ≡ false → (a == b) ≡ false → put a (b ∷ set) ≡ b ∷ put a set
put-more a b set l e = ap (λ t. cond t (a ∷ b ∷ set) (cond (a == b) (b ∷ set) (b ∷ put a set))) l ∙ ap (λ t. cond t (b ∷ set) (b ∷ put a set)) e

with-put : (a : ℕ) (set : List ℕ) → with_type a set ≡ put a set
unfolding with_type
with-put a [] = refl
with-put a (b ∷ set) = go (cases_lt a b) (cases_eq a b) (with-put a set)
  where
    go : (a < b) ⊎ (b ≤ a) → (a ≡ b) ⊎ (a ≢ b) → with_type a set ≡ put a set → with_type a (b ∷ set) ≡ put a (b ∷ set)
    go (inl less) same later = with_less a b set (ne_eqb a b (λ e. omega (arith, less, e))) (le-leb a b (omega (arith, less))) ∙ sym (put-less a b set (lt-ltb a b less))
    go (inr past) (inl same) later = with_same a b set (eq-eqb a b same) ∙ sym (put-same a b set (le-ltb a b past) (eq-eqb a b same))
    go (inr past) (inr apart) later = with_more a b set (ne_eqb a b apart) (lt-leb a b (omega (arith, past, apart))) ∙ ap (λ l. b ∷ l) later ∙ sym (put-more a b set (le-ltb a b past) (ne_eqb a b apart))

pub with-joined : (ps set : List ℕ) → with_types ps set ≡ joined_with set ps
unfolding with_types
with-joined [] set = refl
with-joined (p ∷ ps) set = ap (with_types ps) (with-put p set) ∙ with-joined ps (put p set)

-- what stands in a set by the one test stands there by the other
pub has-has : (a : ℕ) (set : List ℕ) → table.has a set ≡ true → has a set ≡ true
has-has a [] h = absurd (no_has a h)
has-has a (b ∷ set) h =
    ⊎_elim
    (λ (e : (b == a) ≡ true). or_left (a == b) (has a set) (eq-eqb a b (sym (eqb-true b a e))))
    (λ (t : table.has a set ≡ true). or_right (a == b) (has a set) (has-has a set t))
    (has_tail a b set h)

-- rising sets
next-above : (x : ℕ) (xs : List ℕ) → AllByRecursion (λ y. x < y) xs → 0 < length xs → x < slice_index xs 0
next-above x [] all some = absurd (omega (arith, some))
next-above x (y ∷ ys) all some = all.0

pub increasing : (set : List ℕ) → IsRising set → IsStrictlyIncreasing set
increasing [] rising k low = absurd (omega (arith, low))
increasing (x ∷ xs) rising zero low =
    let one : suc zero ≡ zero + 1 = omega arith in
    subst (λ n. x < slice_index (x ∷ xs) n) one (next-above x xs rising.0 (omega (arith, low)))
increasing (x ∷ xs) rising (suc k) low =
    let one : suc (k + 1) ≡ suc k + 1 = omega arith in
    subst (λ n. slice_index xs k < slice_index (x ∷ xs) n) one (increasing xs rising.1 k (omega (arith, low)))
