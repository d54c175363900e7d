-- What holds of each two elements of a list that stand at two places.
use Rattle.std.proofs.Common.{◌≡◌, ◌≢◌, ap, subst, refl, ℕ, zero, suc, Bool, true, false, cond, List, [], ◌∷◌, ◌++◌, map, slice_get, Some}
use Rattle.std.specs.List.{AllByRecursion, filter, flat_map}

-- each two of them, the first one first
unfoldable pub Each2 : {A : Type 0} → (A → A → Type 0) → List A → Type 0
Each2 R [] = Unit {0}
Each2 R (x ∷ xs) = AllByRecursion (R x) xs × Each2 R xs

-- each of the first list with each of the second
abbrev pub Across : {A : Type 0} → (A → A → Type 0) → List A → List A → Type 0
Across R xs ys = AllByRecursion (λ x. AllByRecursion (R x) ys) xs

pub all-at : {A : Type 0} (P : A → Type 0) (xs : List A) (i : ℕ) (x : A) → AllByRecursion P xs → slice_get xs i ≡ Some x → P x
all-at P [] i x h e = absurd cc
all-at P (y ∷ ys) zero x h e = let same : y ≡ x = cc in subst P same h.0
all-at P (y ∷ ys) (suc i) x h e = all-at P ys i x h.1 e

pub all-on : {A : Type 0} (P Q : A → Type 0) → ((x : A) → P x → Q x) → (xs : List A) → AllByRecursion P xs → AllByRecursion Q xs
all-on P Q f [] h = h
all-on P Q f (x ∷ xs) h = (f x h.0, all-on P Q f xs h.1)

pub all-append : {A : Type 0} (P : A → Type 0) (xs ys : List A) → AllByRecursion P xs → AllByRecursion P ys → AllByRecursion P (xs ++ ys)
all-append P [] ys h k = k
all-append P (x ∷ xs) ys h k = (h.0, all-append P xs ys h.1 k)

pub all-map : {A B : Type 0} (Q : B → Type 0) (f : A → B) (xs : List A) → AllByRecursion (λ x. Q (f x)) xs → AllByRecursion Q (map f xs)
all-map Q f [] h = h
all-map Q f (x ∷ xs) h = (h.0, all-map Q f xs h.1)

pub all-both : {A : Type 0} (P Q : A → Type 0) (xs : List A) → AllByRecursion P xs → AllByRecursion Q xs → AllByRecursion (λ x. P x × Q x) xs
all-both P Q [] h k = h
all-both P Q (x ∷ xs) h k = ((h.0, k.0), all-both P Q xs h.1 k.1)

kept : {A : Type 0} (P : A → Type 0) (t : A → Bool) (b : Bool) (x : A) (ys : List A) → t x ≡ b → P x → AllByRecursion (λ y. P y × (t y ≡ true)) ys → AllByRecursion (λ y. P y × (t y ≡ true)) (cond b (x ∷ ys) ys)
kept P t true x ys e h k = ((h, e), k)
kept P t false x ys e h k = k

-- those that are left pass the test
pub all-filter : {A : Type 0} (P : A → Type 0) (t : A → Bool) (xs : List A) → AllByRecursion P xs → AllByRecursion (λ x. P x × (t x ≡ true)) (filter t xs)
all-filter P t [] h = h
all-filter P t (x ∷ xs) h = kept P t (t x) x (filter t xs) refl h.0 (all-filter P t xs h.1)

pub all-flat : {A B : Type 0} (P : A → Type 0) (Q : B → Type 0) (f : A → List B) → ((x : A) → P x → AllByRecursion Q (f x)) → (xs : List A) → AllByRecursion P xs → AllByRecursion Q (flat_map f xs)
all-flat P Q f g [] h = h
all-flat P Q f g (x ∷ xs) h = all-append Q (f x) (flat_map f xs) (g x h.0) (all-flat P Q f g xs h.1)

pub across-on : {A : Type 0} (P Q : A → Type 0) (R : A → A → Type 0) → ((x y : A) → P x → Q y → R x y) → (xs ys : List A) → AllByRecursion P xs → AllByRecursion Q ys → Across R xs ys
across-on P Q R f xs ys h k = all-on P (λ x. AllByRecursion (R x) ys) (λ x p. all-on Q (R x) (λ y q. f x y p q) ys k) xs h

pub each-append : {A : Type 0} (R : A → A → Type 0) (xs ys : List A) → Each2 R xs → Each2 R ys → Across R xs ys → Each2 R (xs ++ ys)
unfolding Each2
each-append R [] ys h k c = k
each-append R (x ∷ xs) ys h k c = (all-append (R x) xs ys h.0 c.0, each-append R xs ys h.1 k c.1)

pub each-map : {A B : Type 0} (R : B → B → Type 0) (f : A → B) (xs : List A) → Each2 (λ x y. R (f x) (f y)) xs → Each2 R (map f xs)
unfolding Each2
each-map R f [] h = h
each-map R f (x ∷ xs) h = (all-map (R (f x)) f xs h.0, each-map R f xs h.1)

pub each-on : {A : Type 0} (P : A → Type 0) (Q R : A → A → Type 0) → ((x y : A) → P x → P y → Q x y → R x y) → (xs : List A) → AllByRecursion P xs → Each2 Q xs → Each2 R xs
unfolding Each2
each-on P Q R f [] h k = k
each-on P Q R f (x ∷ xs) h k = (all-on (λ y. P y × Q x y) (R x) (λ y p. f x y h.0 p.0 p.1) xs (all-both P (Q x) xs h.1 k.0), each-on P Q R f xs h.1 k.1)

first-of : {A : Type 0} (P : A → Type 0) (t : A → Bool) (xs : List A) → AllByRecursion P xs → AllByRecursion P (filter t xs)
first-of P t xs h = all-on (λ x. P x × (t x ≡ true)) P (λ x p. p.0) (filter t xs) (all-filter P t xs h)

each-kept : {A : Type 0} (R : A → A → Type 0) (b : Bool) (x : A) (ys : List A) → AllByRecursion (R x) ys → Each2 R ys → Each2 R (cond b (x ∷ ys) ys)
unfolding Each2
each-kept R true x ys h k = (h, k)
each-kept R false x ys h k = k

pub each-filter : {A : Type 0} (R : A → A → Type 0) (t : A → Bool) (xs : List A) → Each2 R xs → Each2 R (filter t xs)
unfolding Each2
each-filter R t [] h = h
each-filter R t (x ∷ xs) h = each-kept R (t x) x (filter t xs) (first-of (R x) t xs h.0) (each-filter R t xs h.1)

pub each-flat : {A B : Type 0} (P : A → Type 0) (Q : A → A → Type 0) (T : A → B → Type 0) (R : B → B → Type 0) (f : A → List B) → ((x : A) → P x → Each2 R (f x)) → ((x : A) → P x → AllByRecursion (T x) (f x)) → ((x y : A) (a b : B) → Q x y → T x a → T y b → R a b) → (xs : List A) → AllByRecursion P xs → Each2 Q xs → Each2 R (flat_map f xs)
unfolding Each2
each-flat P Q T R f g t r [] h k = k
each-flat P Q T R f g t r (x ∷ xs) h k =
    each-append R (f x) (flat_map f xs) (g x h.0) (each-flat P Q T R f g t r xs h.1 k.1)
    (all-on (T x) (λ a. AllByRecursion (R a) (flat_map f xs))
    (λ a p. all-flat (λ y. P y × Q x y) (R a) f (λ y q. all-on (T y) (R a) (λ b s. r x y a b q.1 p s) (f y) (t y q.0)) xs (all-both P (Q x) xs h.1 k.0))
    (f x) (t x h.0))

-- two places
pub each-at : {A : Type 0} (R : A → A → Type 0) → ((x y : A) → R x y → R y x) → (xs : List A) → Each2 R xs → (i j : ℕ) (x y : A) → i ≢ j → slice_get xs i ≡ Some x → slice_get xs j ≡ Some y → R x y
unfolding Each2
each-at R turn [] h i j x y n e f = absurd cc
each-at R turn (z ∷ zs) h zero zero x y n e f = absurd (n refl)
each-at R turn (z ∷ zs) h zero (suc j) x y n e f = let same : z ≡ x = cc in subst (λ w. R w y) same (all-at (R z) zs j y h.0 f)
each-at R turn (z ∷ zs) h (suc i) zero x y n e f = let same : z ≡ y = cc in subst (R x) same (turn z x (all-at (R z) zs i x h.0 e))
each-at R turn (z ∷ zs) h (suc i) (suc j) x y n e f = each-at R turn zs h.1 i j x y (λ q. n (ap suc q)) e f
