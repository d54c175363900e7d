-- Types of two lists, one by one.
use Rattle.std.proofs.Common.{◌≡◌, ◌≢◌, ◌∙◌, ap, sym, refl, arith, ℕ, zero, suc, ◌+◌, ◌<◌, ◌≤◌, Bool, true, false, ◌&&◌, List, [], ◌∷◌, length, drop, get_or, drop-cons}
use Rattle.type_names.specs.declared.kinds.Erased.{Erased}
use Rattle.offers.specs.Scenes.{same_type}
use Rattle.offers.specs.Omissions.{same_types}

and-false : (b : Bool) → (b && false) ≡ false
and-false true = refl
and-false false = refl

pub types-apart : (a b : List Erased) → length a ≢ length b → false ≡ same_types a b
unfolding same_types
types-apart [] [] n = absurd (n refl)
types-apart (x ∷ xs) (y ∷ ys) n = sym (ap (λ t. same_type x y && t) (sym (types-apart xs ys (λ e. n (ap suc e)))) ∙ and-false (same_type x y))
types-apart [] (y ∷ ys) n = refl
types-apart (x ∷ xs) [] n = refl

cons-cons : (x y : Erased) (xs ys : List Erased) → same_types (x ∷ xs) (y ∷ ys) ≡ (same_type x y && same_types xs ys)
unfolding same_types
cons-cons x y xs ys = refl

more : (a b : List Erased) (i j : ℕ) (x y : Erased) → i < length a → i < length b → j ≡ i + 1 → x ≡ get_or a i x → y ≡ get_or b i y → same_types (drop i a) (drop i b) ≡ (same_type x y && same_types (drop j a) (drop j b))
more a b i j x y l m e f g =
    let s : suc i ≡ j = omega arith in
    let p : drop i a ≡ x ∷ drop j a = drop-cons a i x l ∙ ap (λ z. z ∷ drop (suc i) a) (sym f) ∙ ap (λ n. x ∷ drop n a) s in
    let q : drop i b ≡ y ∷ drop j b = drop-cons b i y m ∙ ap (λ z. z ∷ drop (suc i) b) (sym g) ∙ ap (λ n. y ∷ drop n b) s in
    ap (λ z. same_types z (drop i b)) p ∙ ap (same_types (x ∷ drop j a)) q ∙ cons-cons x y (drop j a) (drop j b)

pub types-no : (whole : Bool) (a b : List Erased) (i : ℕ) (x y : Erased) (same : Bool) → i < length a → i < length b → x ≡ get_or a i x → y ≡ get_or b i y → whole ≡ same_types (drop i a) (drop i b) → same ≡ same_type x y → same ≡ false → false ≡ whole
types-no whole a b i x y same l m f g h e n = sym (h ∙ more a b i (i + 1) x y l m refl f g ∙ ap (λ t. t && same_types (drop (i + 1) a) (drop (i + 1) b)) (sym e ∙ n))

pub types-on : (whole : Bool) (a b : List Erased) (i : ℕ) (x y : Erased) (same : Bool) → i < length a → i < length b → x ≡ get_or a i x → y ≡ get_or b i y → whole ≡ same_types (drop i a) (drop i b) → same ≡ same_type x y → same ≡ true → whole ≡ same_types (drop (i + 1) a) (drop (i + 1) b)
types-on whole a b i x y same l m f g h e n = h ∙ more a b i (i + 1) x y l m refl f g ∙ ap (λ t. t && same_types (drop (i + 1) a) (drop (i + 1) b)) (sym e ∙ n)

dropped : (n : ℕ) (xs : List Erased) → length xs ≤ n → drop n xs ≡ []
dropped zero [] l = refl
dropped zero (x ∷ xs) l = absurd (omega arith)
dropped (suc n) [] l = refl
dropped (suc n) (x ∷ xs) l = dropped n xs (omega arith)

none : same_types [] [] ≡ true
unfolding same_types
none = refl

pub types-end : (whole : Bool) (a b : List Erased) (i : ℕ) → length a ≤ i → length b ≤ i → whole ≡ same_types (drop i a) (drop i b) → true ≡ whole
types-end whole a b i l m h = sym (h ∙ ap (λ z. same_types z (drop i b)) (dropped i a l) ∙ ap (same_types []) (dropped i b m) ∙ none)
