-- Lists that loops make.
use Rattle.std.proofs.Common.{◌≡◌, ◌∙◌, ap, sym, arith, refl, ℕ, zero, suc, ◌+◌, ◌<◌, ◌≤◌, Bool, true, false, cond, List, [], ◌∷◌, ◌++◌, map, take, length, get_or, ◌&&◌, Some}
use Rattle.std.specs.Prelude.{slice_get}
use Rattle.std.proofs.lemmas.List.{append-nil, take_more}
use Rattle.std.proofs.lemmas.Grind.{flat_map-append}
use Rattle.std.proofs.lemmas.List.Elements.{filter_more}
use Rattle.std.proofs.lemmas.Option.{slice_get_within, get_or_from_slice_get}
use Rattle.std.specs.List.{range_with_len, filter, list_all, flat_map}
use Rattle.std.proofs.lemmas.List.FromFn.{map-range_with_len_more}

-- one more of the values at 0, 1 ..
pub range-on : {A : Type 0} (f : ℕ → A) (i : ℕ) (xs ys : List A) (x : A) → xs ≡ map f (range_with_len 0 i) → x ≡ f i → ys ≡ xs ++ x ∷ [] → ys ≡ map f (range_with_len 0 (i + 1))
range-on {A} f i xs ys x h e g = g ∙ ap (λ (z : List A). z ++ x ∷ []) h ∙ ap (λ (z : A). map f (range_with_len 0 i) ++ z ∷ []) e ∙ sym (map-range_with_len_more f 0 i i (omega arith))

-- one more element of a list, kept where it passes
pub filter-on : {A : Type 0} (p : A → Bool) (xs : List A) (i : ℕ) (x : A) (all new : List A) → slice_get xs i ≡ Some x → all ≡ filter p (take i xs) → new ≡ all ++ cond (p x) (x ∷ []) [] → new ≡ filter p (take (i + 1) xs)
filter-on {A} p xs i x all new s h e =
    e ∙ ap (λ (z : List A). z ++ cond (p x) (x ∷ []) []) h
    ∙ ap (λ (y : A). filter p (take i xs) ++ cond (p y) (y ∷ []) []) (sym (get_or_from_slice_get xs i x x s))
    ∙ sym (filter_more p xs i x (slice_get_within xs i x s))

pub kept-if : {A : Type 0} (b : Bool) (x : A) (all : List A) → b ≡ true → all ++ x ∷ [] ≡ all ++ cond b (x ∷ []) []
kept-if {A} b x all e = ap (λ (z : List A). all ++ z) (sym (ap (λ (t : Bool). cond t (x ∷ []) []) e))

pub left-if : {A : Type 0} (b : Bool) (x : A) (all : List A) → b ≡ false → all ≡ all ++ cond b (x ∷ []) []
left-if {A} b x all e = sym (append-nil all) ∙ ap (λ (z : List A). all ++ z) (sym (ap (λ (t : Bool). cond t (x ∷ []) []) e))

and-false : (b : Bool) → (b && false) ≡ false
and-false true = refl
and-false false = refl

and-true : (b : Bool) → (b && true) ≡ b
and-true true = refl
and-true false = refl

-- two tests, of which the second is asked first
pub none-of : (a b r : Bool) → r ≡ b → r ≡ false → false ≡ (a && b)
none-of a b r e f = sym (ap (λ t. a && t) (sym e ∙ f) ∙ and-false a)

pub one-of : (a b r out : Bool) → r ≡ b → r ≡ true → out ≡ a → out ≡ (a && b)
one-of a b r out e t o = o ∙ sym (ap (λ x. a && x) (sym e ∙ t) ∙ and-true a)

pub first-true : (a b : Bool) → (a && b) ≡ true → a ≡ true
first-true true b e = refl
first-true false b e = absurd (let h = e in cc)

pub second-true : (a b : Bool) → (a && b) ≡ true → b ≡ true
second-true true b e = e
second-true false b e = absurd (let h = e in cc)

both-true : (a b : Bool) → a ≡ true → b ≡ true → (a && b) ≡ true
both-true a b e f = rw (e, f) refl

take-all : {A : Type 0} (n : ℕ) (xs : List A) → length xs ≤ n → take n xs ≡ xs
take-all zero [] l = refl
take-all zero (x ∷ xs) l = absurd (omega arith)
take-all (suc n) [] l = refl
take-all {A} (suc n) (x ∷ xs) l = ap (λ (z : List A). x ∷ z) (take-all n xs (omega arith))

-- what holds of the elements before a place and of that one
all-join : {A : Type 0} (p : A → Bool) (xs ys : List A) → list_all p xs ≡ true → list_all p ys ≡ true → list_all p (xs ++ ys) ≡ true
all-join p [] ys h k = k
all-join p (x ∷ xs) ys h k = both-true (p x) (list_all p (xs ++ ys)) (first-true (p x) _ h) (all-join p xs ys (second-true (p x) _ h) k)

pub all-more : {A : Type 0} (p : A → Bool) (xs : List A) (i : ℕ) (x : A) → slice_get xs i ≡ Some x → list_all p (take i xs) ≡ true → p x ≡ true → list_all p (take (i + 1) xs) ≡ true
all-more {A} p xs i x s h e =
    ap (list_all p) (take_more xs i x (slice_get_within xs i x s) ∙ ap (λ (z : A). take i xs ++ z ∷ []) (get_or_from_slice_get xs i x x s))
    ∙ all-join p (take i xs) (x ∷ []) h (both-true (p x) true e refl)

pub all-missed : {A : Type 0} (p : A → Bool) (xs : List A) (i : ℕ) (x : A) → slice_get xs i ≡ Some x → p x ≡ false → false ≡ list_all p xs
all-missed p [] i x s e = absurd (let k = s in cc)
all-missed p (y ∷ ys) zero x s e = let k : y ≡ x = cc in sym (ap (λ b. b && list_all p ys) (ap p k ∙ e))
all-missed p (y ∷ ys) (suc i) x s e = sym (ap (λ b. p y && b) (sym (all-missed p ys i x s e)) ∙ and-false (p y))

pub all-through : {A : Type 0} (p : A → Bool) (xs : List A) (i n : ℕ) → n ≡ length xs → n ≤ i → list_all p (take i xs) ≡ true → true ≡ list_all p xs
all-through p xs i n e l h = sym (ap (list_all p) (sym (take-all i xs (omega arith))) ∙ h)

-- one more element of a list, with what it gives
pub flat-on : {A B : Type 0} (f : A → List B) (xs : List A) (i : ℕ) (x : A) (all new : List B) → slice_get xs i ≡ Some x → all ≡ flat_map f (take i xs) → new ≡ all ++ f x → new ≡ flat_map f (take (i + 1) xs)
flat-on {A} {B} f xs i x all new s h e =
    e ∙ ap (λ (z : List B). z ++ f x) h ∙ ap (λ (y : A). flat_map f (take i xs) ++ f y) (sym (get_or_from_slice_get xs i x x s))
    ∙ sym (ap (flat_map f) (take_more xs i x (slice_get_within xs i x s)) ∙ flat_map-append f (take i xs) (get_or xs i x ∷ []) ∙ ap (λ (z : List B). flat_map f (take i xs) ++ z) (append-nil (f (get_or xs i x))))

-- one more of the values at a, a + 1 ..
pub range-from : {A : Type 0} (f : ℕ → A) (a i j : ℕ) (xs ys : List A) (x : A) → a + i ≡ j → xs ≡ map f (range_with_len a i) → x ≡ f j → ys ≡ xs ++ x ∷ [] → ys ≡ map f (range_with_len a (i + 1))
range-from {A} f a i j xs ys x s h e g = g ∙ ap (λ (z : List A). z ++ x ∷ []) h ∙ ap (λ (z : A). map f (range_with_len a i) ++ z ∷ []) e ∙ sym (map-range_with_len_more f a i j s)

-- tests that tell the same
pub same-test : (b c : Bool) → (b ≡ true → c ≡ true) → (c ≡ true → b ≡ true) → b ≡ c
same-test true c f g = sym (f refl)
same-test false true f g = g refl
same-test false false f g = refl

-- the element that is read at a place
pub at-get : {A : Type 0} (xs : List A) (i : ℕ) (x : A) → i < length xs → x ≡ get_or xs i x → slice_get xs i ≡ Some x
at-get [] i x l e = absurd (omega (arith, l))
at-get (y ∷ ys) zero x l e = ap Some (sym e)
at-get (y ∷ ys) (suc i) x l e = at-get ys i x (omega arith) e
