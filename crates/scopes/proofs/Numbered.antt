-- Each type that is mentioned has a number.
use Rattle.std.proofs.Common.{◌≡◌, ◌∙◌, ap, sym, subst, refl, arith, rules, tests, ℕ, suc, ◌<◌, nat_lt, Bool, true, false, ◌||◌, cond, List, [], ◌∷◌, ◌++◌, length, map, take, drop, bytes_eq, Option, Some, None, Ordering, Less, Equal, Greater}
use Rattle.std.specs.List.{AllByRecursion, flat_map, list_any}
use Rattle.std.specs.Ordering.{nat_cmp, is_eq}
use Rattle.std.specs.Cmp.Lexicographic.{slice_cmp}
use Rattle.std.proofs.lemmas.Slice.Eq.{bytes_eq-Decides}
use Rattle.std.proofs.lemmas.Map.Text.{is_eq-slice_cmp}
use Rattle.type_names.specs.declared.kinds.Erased.{Erased}
use Rattle.type_names.specs.Descriptors.{field, outcome}
use Rattle.offers.specs.Scenes.{same_type, put, put_by, sorted}
use Rattle.offers.specs.Candidates.{same_outcome}
use Rattle.scopes.specs.Kinds.{Kinds, listed, count, place_among, number_in}
use Rattle.scopes.specs.Numbers.{early_ones}
use Rattle.scopes.proofs.Every.{every-on}
use Rattle.scopes.proofs.Listed.{put-void}

-- the type is among these
unfoldable pub Has : List Erased → Erased → Type 0
Has ts t = list_any (same_type t) ts ≡ true

or-right : (a b : Bool) → b ≡ true → (a || b) ≡ true
or-right true b e = refl
or-right false b e = e

or-left : (a b : Bool) → a ≡ true → (a || b) ≡ true
or-left a b e = rw e refl

same-self : (t : Erased) → same_type t t ≡ true
same-self t = (bytes_eq-Decides (field t) (field t)).1 refl

pub has-here : (t : Erased) (ts : List Erased) → Has (t ∷ ts) t
unfolding Has
has-here t ts = or-left (same_type t t) _ (same-self t)

pub has-next : (u t : Erased) (ts : List Erased) → Has ts t → Has (u ∷ ts) t
unfolding Has
has-next u t ts h = or-right (same_type t u) _ h

pub has-right : (xs ys : List Erased) (t : Erased) → Has ys t → Has (xs ++ ys) t
has-right [] ys t h = h
has-right (x ∷ xs) ys t h = has-next x t (xs ++ ys) (has-right xs ys t h)

by : (a b c : Bool) → (a || b) ≡ true → (b ≡ true → c ≡ true) → (a || c) ≡ true
by true b c e f = refl
by false b c e f = f e

pub has-left : (xs ys : List Erased) (t : Erased) → Has xs t → Has (xs ++ ys) t
unfolding Has
has-left [] ys t h = absurd (search (rules, h))
has-left (x ∷ xs) ys t h = by (same_type t x) (list_any (same_type t) xs) (list_any (same_type t) (xs ++ ys)) h (has-left xs ys t)

pub every-has : (xs : List Erased) → AllByRecursion (Has xs) xs
every-has [] = search rules
every-has (x ∷ xs) = (has-here x xs, every-on (Has xs) (Has (x ∷ xs)) (λ t h. has-next x t xs h) xs (every-has xs))

pub every-flat : {A : Type 0} (f : A → List Erased) (xs : List A) → AllByRecursion (λ x. AllByRecursion (Has (flat_map f xs)) (f x)) xs
every-flat f [] = search rules
every-flat f (x ∷ xs) = (
  every-on (Has (f x)) (Has (f x ++ flat_map f xs)) (λ t h. has-left (f x) (flat_map f xs) t h) (f x) (every-has (f x)),
  every-on (λ y. AllByRecursion (Has (flat_map f xs)) (f y)) (λ y. AllByRecursion (Has (f x ++ flat_map f xs)) (f y))
      (λ y k. every-on (Has (flat_map f xs)) (Has (f x ++ flat_map f xs)) (λ t h. has-right (f x) (flat_map f xs) t h) (f y) k) xs (every-flat f xs),
)

-- sorting keeps each type
equal-texts : (xs ys : List ℕ) → slice_cmp nat_cmp xs ys ≡ Equal → xs ≡ ys
equal-texts xs ys e = (bytes_eq-Decides xs ys).0 (sym (is_eq-slice_cmp xs ys) ∙ ap is_eq e)

put-new-by : (o : Ordering) (x y : Erased) (ys more : List Erased) (t : Erased) → (o ≡ Equal → field x ≡ field y) → same_type t x ≡ true → list_any (same_type t) more ≡ true → list_any (same_type t) (put_by o x y ys more) ≡ true
put-new-by Less x y ys more t f h k = or-left (same_type t x) _ h
put-new-by Equal x y ys more t f h k = or-left (same_type t y) _ (subst (λ z. bytes_eq (field t) z ≡ true) (f refl) h)
put-new-by Greater x y ys more t f h k = or-right (same_type t y) _ k

put-new : (x : Erased) (ys : List Erased) (t : Erased) → same_type t x ≡ true → list_any (same_type t) (put field x ys) ≡ true
unfolding put
put-new x [] t h = or-left (same_type t x) _ h
put-new x (y ∷ ys) t h = put-new-by (slice_cmp nat_cmp (field x) (field y)) x y ys (put field x ys) t (equal-texts (field x) (field y)) h (put-new x ys t h)

put-old-by : {A : Type 0} (test : A → Bool) (o : Ordering) (x y : A) (ys more : List A) → (test y || list_any test ys) ≡ true → (list_any test ys ≡ true → list_any test more ≡ true) → list_any test (put_by o x y ys more) ≡ true
put-old-by test Less x y ys more h k = or-right (test x) _ h
put-old-by test Equal x y ys more h k = h
put-old-by test Greater x y ys more h k = by (test y) (list_any test ys) (list_any test more) h k

put-old : {A : Type 0} (text : A → List ℕ) (test : A → Bool) (x : A) (ys : List A) → list_any test ys ≡ true → list_any test (put text x ys) ≡ true
unfolding put
put-old text test x [] h = absurd (let e = h in cc)
put-old text test x (y ∷ ys) h = put-old-by test (slice_cmp nat_cmp (text x) (text y)) x y ys (put text x ys) h (put-old text test x ys)

split : (a b c : Bool) → (a || b) ≡ true → (a ≡ true → c ≡ true) → (b ≡ true → c ≡ true) → c ≡ true
split true b c e f g = f refl
split false b c e f g = g e

pub sorted-has : (xs : List Erased) (t : Erased) → Has xs t → Has (sorted field xs) t
unfolding Has sorted
sorted-has [] t h = h
sorted-has (x ∷ xs) t h = split (same_type t x) (list_any (same_type t) xs) (list_any (same_type t) (put field x (sorted field xs))) h
    (put-new x (sorted field xs) t) (λ k. put-old field (same_type t) x (sorted field xs) (sorted-has xs t k))

-- what is among all types, also without a value
unfoldable pub Among : Kinds → Option Erased → Type 0
Among ks k = list_any (same_outcome k) (listed ks) ≡ true

any-some : (ts : List Erased) (t : Erased) → list_any (same_outcome (Some t)) (map Some ts) ≡ list_any (same_type t) ts
any-some [] t = refl
any-some (u ∷ us) t = ap (λ b. same_type t u || b) (any-some us t)

has-among : (ts : List Erased) (b : Bool) (t : Erased) → Has ts t → list_any (same_outcome (Some t)) (listed (record { types = ts; void = b })) ≡ true
unfolding Has listed
has-among ts true t h = put-old outcome (same_outcome (Some t)) None (map Some ts) (any-some ts t ∙ h)
has-among ts false t h = any-some ts t ∙ h

pub type-among : (ks : Kinds) (t : Erased) → Has ks.types t → Among ks (Some t)
unfolding Among
type-among ks t h = has-among ks.types ks.void t h

any-none : (us : List Erased) (rest : List (Option Erased)) → list_any (same_outcome None) (map Some us ++ None ∷ rest) ≡ true
any-none [] rest = refl
any-none (u ∷ us) rest = any-none us rest

none-among : (ts : List Erased) (b : Bool) → b ≡ true → list_any (same_outcome None) (listed (record { types = ts; void = b })) ≡ true
unfolding listed
none-among ts true e = ap (λ (us : List (Option Erased)). list_any (same_outcome None) us) (put-void ts) ∙ any-none (take (early_ones ts) ts) (map Some (drop (early_ones ts) ts))
none-among ts false e = absurd (let h = e in cc)

pub void-among : (ks : Kinds) → ks.void ≡ true → Among ks None
unfolding Among
void-among ks e = none-among ks.types ks.void e

-- the number of such a type
number-by : (a b : Bool) (n m : ℕ) → (a || b) ≡ true → (b ≡ true → n < m) → cond a 0 (suc n) < suc m
number-by true b n m e f = omega arith
number-by false b n m e f = let l = f e in omega (arith, l)

place-below : (us : List (Option Erased)) (k : Option Erased) → list_any (same_outcome k) us ≡ true → place_among us k < length us
unfolding place_among
place-below [] k h = absurd (let e = h in cc)
place-below (u ∷ us) k h = number-by (same_outcome k u) (list_any (same_outcome k) us) (place_among us k) (length us) h (place-below us k)

pub number-below : (ks : Kinds) (k : Option Erased) → Among ks k → number_in ks k < count ks
unfolding Among number_in
number-below ks k h = place-below (listed ks) k h

pub number-lt : (ks : Kinds) (k : Option Erased) → Among ks k → nat_lt (number_in ks k) (count ks) ≡ true
number-lt ks k h = let l = number-below ks k h in search (rules, tests, arith)
