-- What holds of each element.
use Rattle.std.proofs.Common.{◌≡◌, refl, Bool, true, false, cond, List, [], ◌∷◌, ◌++◌, map}
use Rattle.std.specs.List.{AllByRecursion, filter, list_all}

pub every-append : {A : Type 0} (P : A → Type 0) (xs ys : List A) → AllByRecursion P xs → AllByRecursion P ys → AllByRecursion P (xs ++ ys)
every-append P [] ys h k = k
every-append P (x ∷ xs) ys h k = (h.0, every-append P xs ys h.1 k)

pub every-map : {A B : Type 0} (P : A → Type 0) (Q : B → Type 0) (f : A → B) → ((x : A) → P x → Q (f x)) → (xs : List A) → AllByRecursion P xs → AllByRecursion Q (map f xs)
every-map P Q f g [] h = h
every-map P Q f g (x ∷ xs) h = (g x h.0, every-map P Q f g xs h.1)

pub every-on : {A : Type 0} (P Q : A → Type 0) → ((x : A) → P x → Q x) → (xs : List A) → AllByRecursion P xs → AllByRecursion Q xs
every-on P Q g [] h = h
every-on P Q g (x ∷ xs) h = (g x h.0, every-on P Q g xs h.1)

kept : {A : Type 0} (P : A → Type 0) (b : Bool) (x : A) (ys : List A) → P x → AllByRecursion P ys → AllByRecursion P (cond b (x ∷ ys) ys)
kept P true x ys h k = (h, k)
kept P false x ys h k = k

pub every-filter : {A : Type 0} (P : A → Type 0) (t : A → Bool) (xs : List A) → AllByRecursion P xs → AllByRecursion P (filter t xs)
every-filter P t [] h = h
every-filter P t (x ∷ xs) h = kept P (t x) x (filter t xs) h.0 (every-filter P t xs h.1)

pub every-all : {A : Type 0} (t : A → Bool) (xs : List A) → AllByRecursion (λ x. t x ≡ true) xs → list_all t xs ≡ true
every-all t [] h = refl
every-all t (x ∷ xs) h = rw (h.0, every-all t xs h.1) refl
