-- What holds of each member of a list, as far as a loop has come.
use Rattle.std.proofs.Common.{◌≡◌, inl, inr, ℕ, zero, suc, ◌+◌, ◌<◌, ◌≤◌, true, List, [], ◌∷◌, ◌++◌, length, take, get_or, slice_get, Some, refl, sym, ap, subst, ◌∙◌, arith, append_assoc, append-nil}
use Rattle.std.specs.List.{flat_map}
use Rattle.std.proofs.lemmas.Bool.{false≢true}
use Rattle.std.proofs.lemmas.List.{take_more, take_all}
use Rattle.std.proofs.lemmas.List.Concat.{flat_map-cons}
use Rattle.std.proofs.lemmas.Grind.{flat_map-append}
use Rattle.terms.specs.Count.{total}
use Rattle.terms.specs.Table.{has}
use Rattle.terms.proofs.Sums.{total-append}
use Rattle.weight_bounds.proofs.Lists.{has-last, has-get}

-- nothing is in the empty list
pub has-none : (a : ℕ) → has a [] ≡ true → ⊥
unfolding has
has-none a h = false≢true h

-- one member more
pub each-more : (P : ℕ → Type 0) (xs : List ℕ) (i x d : ℕ) → i < length xs → x ≡ get_or xs i d → ((m : ℕ) → has m (take i xs) ≡ true → P m) → P x → (m : ℕ) → has m (take (i + 1) xs) ≡ true → P m
each-more P xs i x d low at before here m h = elim (has-last m x (take i xs) (sym (ap (has m) (take_more xs i d low ∙ ap (λ y. take i xs ++ y ∷ []) (sym at))) ∙ h)) [
  | inl earlier ↦ before m earlier
  | inr now ↦ subst P now here
]

-- all members
pub each-all : (P : ℕ → Type 0) (xs : List ℕ) (i : ℕ) → length xs ≤ i → ((m : ℕ) → has m (take i xs) ≡ true → P m) → (m : ℕ) → has m xs ≡ true → P m
each-all P xs i past before m h = before m (ap (has m) (take_all i xs past) ∙ h)

-- a member by its place
pub has-at : (xs : List ℕ) (i d : ℕ) → i < length xs → has (get_or xs i d) xs ≡ true
has-at xs i d low = has-get xs i (get_or xs i d) (there xs i low)
  where
    there : (ys : List ℕ) (j : ℕ) → j < length ys → slice_get ys j ≡ Some (get_or ys j d)
    there [] j l = absurd (omega (arith, l))
    there (y ∷ ys) zero l = refl
    there (y ∷ ys) (suc j) l = there ys j (omega (arith, l))

-- sums of prefixes
pub total-more : {X : Type 0} (f : X → ℕ) (xs : List X) (i : ℕ) (x d : X) → i < length xs → x ≡ get_or xs i d → total f (take (i + 1) xs) ≡ total f (take i xs) + f x
total-more f xs i x d low at =
    let split = ap (total f) (take_more xs i d low ∙ ap (λ y. take i xs ++ y ∷ []) (sym at)) ∙ total-append f (take i xs) (x ∷ []) in
    omega (arith, split)

pub total-prefix : {X : Type 0} (f : X → ℕ) (xs : List X) (i : ℕ) → total f (take i xs) ≤ total f xs
total-prefix f [] zero = omega arith
total-prefix f [] (suc i) = omega arith
total-prefix f (x ∷ xs) zero = omega arith
total-prefix f (x ∷ xs) (suc i) = (let r = total-prefix f xs i in omega (arith, r))

-- what members bring together
pub brought-more : {X : Type 0} (f : X → List ℕ) (xs : List X) (i : ℕ) (x d : X) (before old new : List ℕ) → i < length xs → x ≡ get_or xs i d → new ≡ old ++ f x → old ≡ before ++ flat_map f (take i xs) → new ≡ before ++ flat_map f (take (i + 1) xs)
brought-more f xs i x d before old new low at is so_far =
    let one : flat_map f (x ∷ []) ≡ f x = flat_map-cons f x [] ∙ append-nil (f x) in
    let all : flat_map f (take (i + 1) xs) ≡ flat_map f (take i xs) ++ f x = ap (flat_map f) (take_more xs i d low ∙ ap (λ y. take i xs ++ y ∷ []) (sym at)) ∙ flat_map-append f (take i xs) (x ∷ []) ∙ ap (λ l. flat_map f (take i xs) ++ l) one in
    is ∙ ap (λ l. l ++ f x) so_far ∙ append_assoc before (flat_map f (take i xs)) (f x) ∙ ap (λ l. before ++ l) (sym all)

pub brought-none : {X : Type 0} (f : X → List ℕ) (xs : List X) (before : List ℕ) → before ≡ before ++ flat_map f (take 0 xs)
brought-none f [] before = sym (append-nil before)
brought-none f (x ∷ xs) before = sym (append-nil before)

pub brought-all : {X : Type 0} (f : X → List ℕ) (xs : List X) (i : ℕ) (before new : List ℕ) → length xs ≤ i → new ≡ before ++ flat_map f (take i xs) → new ≡ before ++ flat_map f xs
brought-all f xs i before new past is = is ∙ ap (λ l. before ++ flat_map f l) (take_all i xs past)
