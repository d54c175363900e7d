-- Lists that a loop goes through.
use Rattle.std.proofs.Common.{◌≡◌, ℕ, zero, suc, ◌+◌, ◌<◌, List, [], ◌∷◌, ◌++◌, length, get_or, take, drop, sym, ap, ◌∙◌, subst, arith}
use Rattle.std.specs.List.{AllByRecursion, flat_map}
use Rattle.std.proofs.lemmas.List.{append-nil, take_more, drop_more, take-append-drop}
use Rattle.std.proofs.lemmas.List.Concat.{flat_map-append}

pub all-then : {A : Type 0} (P : A → Type 0) (xs ys : List A) → AllByRecursion P xs → AllByRecursion P ys → AllByRecursion P (xs ++ ys)
all-then P [] ys h g = g
all-then P (x ∷ xs) ys h g = (h.0, all-then P xs ys h.1 g)

pub one-more : {A : Type 0} (xs : List A) (i : ℕ) (x : A) → i < length xs → x ≡ get_or xs i x → take (i + 1) xs ≡ take i xs ++ x ∷ []
one-more xs i x l e = take_more xs i x l ∙ ap (λ y. take i xs ++ y ∷ []) (sym e)

pub split-at : {A : Type 0} (xs : List A) (i : ℕ) (x : A) → i < length xs → x ≡ get_or xs i x → take i xs ++ (x ∷ drop (i + 1) xs) ≡ xs
split-at xs i x l e = ap (λ y. take i xs ++ (y ∷ drop (i + 1) xs)) e ∙ ap (λ d. take i xs ++ d) (sym (drop_more xs i x l)) ∙ take-append-drop i xs

pub all-more : {A : Type 0} (P : A → Type 0) (xs : List A) (i : ℕ) (x : A) → i < length xs → x ≡ get_or xs i x → AllByRecursion P (take i xs) → P x → AllByRecursion P (take (i + 1) xs)
all-more P xs i x l e h p = subst (λ ys. AllByRecursion P ys) (sym (one-more xs i x l e)) (all-then P (take i xs) (x ∷ []) h (p, tt))

pub all-at : {A : Type 0} (P : A → Type 0) (xs : List A) (i : ℕ) (d : A) → AllByRecursion P xs → i < length xs → P (get_or xs i d)
all-at P [] i d h l = absurd (omega (arith, l))
all-at P (x ∷ xs) zero d h l = h.0
all-at P (x ∷ xs) (suc i) d h l = all-at P xs i d h.1 (omega (arith, l))

pub joined-more : {A B : Type 0} (f : A → List B) (xs : List A) (i : ℕ) (x : A) → i < length xs → x ≡ get_or xs i x → flat_map f (take (i + 1) xs) ≡ flat_map f (take i xs) ++ f x
joined-more f xs i x l e = ap (flat_map f) (one-more xs i x l e) ∙ flat_map-append f (take i xs) (x ∷ []) ∙ ap (λ ys. flat_map f (take i xs) ++ ys) (append-nil (f x))
