-- What holds of each member of a list, as far as a loop has come; and lists to which members were added.
use Rattle.std.proofs.Common.{◌≡◌, inl, inr, ℕ, zero, suc, ◌+◌, ◌<◌, ◌≤◌, true, ◌==◌, ◌||◌, List, [], ◌∷◌, ◌++◌, length, take, get_or, sym, ap, subst, ◌∙◌, arith}
use Rattle.std.proofs.lemmas.Bool.{or_cases, eqb-true}
use Rattle.std.proofs.lemmas.List.{take_more, take_all}
use Rattle.terms.specs.Count.{total}
use Rattle.terms.proofs.Sums.{total-append}
use Rattle.succinct.specs.Sets.{has}
use Rattle.succinct.proofs.Needs.{has-push}

-- one member more
pub each-more : (P : ℕ → Type 0) (xs : List ℕ) (i x d : ℕ) → i < length xs → x ≡ get_or xs i d → ((m : ℕ) → has m (take i xs) ≡ true → P m) → P x → (m : ℕ) → has m (take (i + 1) xs) ≡ true → P m
each-more P xs i x d low at before here m h =
    let split : has m (take i xs) || (m == x) ≡ true = sym (ap (has m) (take_more xs i d low ∙ ap (λ y. take i xs ++ y ∷ []) (sym at)) ∙ has-push m (take i xs) x) ∙ h in
    elim (or_cases (has m (take i xs)) (m == x) split) [
      | inl earlier ↦ before m earlier
      | inr now ↦ subst P (sym (eqb-true m x now)) here
    ]

-- all members
pub each-all : (P : ℕ → Type 0) (xs : List ℕ) (i : ℕ) → length xs ≤ i → ((m : ℕ) → has m (take i xs) ≡ true → P m) → (m : ℕ) → has m xs ≡ true → P m
each-all P xs i past before m h = before m (ap (has m) (take_all i xs past) ∙ h)

-- sums of prefixes
pub total-more : (f : ℕ → ℕ) (xs : List ℕ) (i x d : ℕ) → i < length xs → x ≡ get_or xs i d → total f (take (i + 1) xs) ≡ total f (take i xs) + f x
total-more f xs i x d low at =
    let split = ap (total f) (take_more xs i d low ∙ ap (λ y. take i xs ++ y ∷ []) (sym at)) ∙ total-append f (take i xs) (x ∷ []) in
    omega (arith, split)

pub total-prefix : (f : ℕ → ℕ) (xs : List ℕ) (i : ℕ) → total f (take i xs) ≤ total f xs
total-prefix f [] zero = omega arith
total-prefix f [] (suc i) = omega arith
total-prefix f (x ∷ xs) zero = omega arith
total-prefix f (x ∷ xs) (suc i) = (let r = total-prefix f xs i in omega (arith, r))
