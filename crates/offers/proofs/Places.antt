-- Items that are sorted from the last to the first.
use Rattle.std.proofs.Common.{◌≡◌, ◌∙◌, ap, sym, refl, arith, ℕ, zero, suc, ◌+◌, ◌-◌, ◌<◌, ◌≤◌, List, [], ◌∷◌, ◌++◌, append_assoc, length, drop, get_or, drop-cons}
use Rattle.std.proofs.lemmas.List.{append-nil}
use Rattle.offers.specs.Scenes.{put, sorted}

-- the item at a place of a list, and what follows it
pub at-place : {A : Type 0} (xs : List A) (i : ℕ) (y : A) → i < length xs → y ≡ get_or xs i y → drop i xs ≡ y ∷ drop (i + 1) xs
at-place {A} xs i y l e = let s : suc i ≡ i + 1 = omega arith in drop-cons xs i y l ∙ ap (λ (z : A). z ∷ drop (suc i) xs) (sym e) ∙ ap (λ n. y ∷ drop n xs) s

dropped : {A : Type 0} (n : ℕ) (xs : List A) → length xs ≤ n → drop n xs ≡ []
dropped zero [] l = refl
dropped zero (x ∷ xs) l = absurd (omega arith)
dropped (suc n) [] l = refl
dropped (suc n) (x ∷ xs) l = dropped n xs (omega arith)

-- sorted from the last to the first
sorted-nil : {A : Type 0} (text : A → List ℕ) → sorted text [] ≡ []
unfolding sorted
sorted-nil text = refl

sorted-cons : {A : Type 0} (text : A → List ℕ) (x : A) (xs : List A) → sorted text (x ∷ xs) ≡ put text x (sorted text xs)
unfolding sorted
sorted-cons text x xs = refl

pub sorted-start : {A : Type 0} (text : A → List ℕ) (xs : List A) (n : ℕ) → length xs ≤ n → [] ≡ sorted text (drop n xs)
sorted-start text xs n l = sym (ap (sorted text) (dropped n xs l) ∙ sorted-nil text)

pub sorted-on : {A : Type 0} (text : A → List ℕ) (xs all new : List A) (left : ℕ) (y : A) → 0 < left → left ≤ length xs → y ≡ get_or xs (left - 1) y → all ≡ sorted text (drop left xs) → new ≡ put text y all → new ≡ sorted text (drop (left - 1) xs)
sorted-on text xs all new left y o l e h f =
    let s : left - 1 + 1 ≡ left = omega arith in
    f ∙ ap (put text y) (h ∙ ap (λ n. sorted text (drop n xs)) (sym s)) ∙ sym (ap (sorted text) (at-place xs (left - 1) y (omega arith) e) ∙ sorted-cons text y (drop (left - 1 + 1) xs))

-- one more is taken from the end
pub taken-last : {A : Type 0} (text : A → List ℕ) (items left new rest : List A) (x : A) (all next : List A) → items ≡ left ++ rest → left ≡ new ++ x ∷ [] → all ≡ sorted text rest → next ≡ put text x all → (more : List A) × (items ≡ new ++ more) × (next ≡ sorted text more)
taken-last {A} text items left new rest x all next e f g h =
    (x ∷ rest, e ∙ ap (λ (z : List A). z ++ rest) f ∙ append_assoc new (x ∷ []) rest, h ∙ ap (put text x) g ∙ sym (sorted-cons text x rest))

pub none-taken : {A : Type 0} (text : A → List ℕ) (items all : List A) → all ≡ [] → (rest : List A) × (items ≡ items ++ rest) × (all ≡ sorted text rest)
none-taken text items all e = ([], sym (append-nil items), e ∙ sym (sorted-nil text))
