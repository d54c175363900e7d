-- What is read of a list at a place, and what stands in it.
use Rattle.std.proofs.Common.{◌≡◌, ◌⊎◌, inl, inr, ℕ, zero, suc, ◌+◌, ◌<◌, Bool, true, false, ◌||◌, ◌&&◌, ◌==◌, List, [], ◌∷◌, ◌++◌, length, map, slice_get, Option, Some, None, refl, sym, ap, ◌∙◌, append_assoc, append-nil, arith}
use Rattle.std.specs.List.{list_any, flat_map}
use Rattle.std.proofs.lemmas.Bool.{false≢true, or_cases, or_left, or_right, and_parts, and_from, eq-eqb, eqb-true}
use Rattle.std.proofs.lemmas.List.Concat.{flat_map-cons}
use Rattle.std.proofs.lemmas.List.Folds.{list_any-append}
use Rattle.terms.specs.Table.{has}
use Rattle.terms.specs.Typing.{is_pair, joined}

pub some_eq : {X : Type 0} (x y : X) → Some x ≡ Some y → x ≡ y
some_eq x y h = cc

abbrev is_there : {X : Type 0} → Option X → Bool
is_there None = false
is_there (Some x) = true

pub none_some : {X : Type 0} (x : X) → None ≡ Some x → ⊥
none_some x h = false≢true (ap is_there h)

-- neither of two tests holds
pub or-none : (a b : Bool) → a || b ≡ false → (a ≡ false) × (b ≡ false)
or-none false false h = (refl, refl)
or-none false true h = absurd (false≢true (sym h))
or-none true b h = absurd (false≢true (sym h))

-- an element of one list after the other, and of which of them
pub get-either : {X : Type 0} (xs ys : List X) (m : ℕ) (x : X) → slice_get (xs ++ ys) m ≡ Some x → (slice_get xs m ≡ Some x) ⊎ ((k : ℕ) × (m ≡ length xs + k) × (slice_get ys k ≡ Some x))
get-either [] ys m x h = inr (m, omega arith, h)
get-either (y ∷ xs) ys zero x h = inl h
get-either (y ∷ xs) ys (suc m) x h = elim (get-either xs ys m x h) [
  | inl first ↦ inl first
  | inr second ↦ (let e = second.1 in inr (second.0, omega (arith, e), second.2))
]

pub get-first : {X : Type 0} (xs ys : List X) (k : ℕ) (x : X) → slice_get xs k ≡ Some x → slice_get (xs ++ ys) k ≡ Some x
get-first [] ys k x h = cc
get-first (y ∷ xs) ys zero x h = h
get-first (y ∷ xs) ys (suc k) x h = get-first xs ys k x h

pub get-second : {X : Type 0} (xs ys : List X) (k : ℕ) (x : X) → slice_get ys k ≡ Some x → slice_get (xs ++ ys) (length xs + k) ≡ Some x
get-second [] ys k x h = (let e : 0 + k ≡ k = omega arith in ap (slice_get ys) e ∙ h)
get-second (y ∷ xs) ys k x h = (let e : suc (length xs) + k ≡ suc (length xs + k) = omega arith in ap (slice_get (y ∷ (xs ++ ys))) e ∙ get-second xs ys k x h)

-- an element of a list that another was made of
pub get-map : {X Y : Type 0} (f : X → Y) (xs : List X) (k : ℕ) (x : X) → slice_get xs k ≡ Some x → slice_get (map f xs) k ≡ Some (f x)
get-map f [] k x h = cc
get-map f (y ∷ xs) zero x h = ap (λ z. Some (f z)) (some_eq y x h)
get-map f (y ∷ xs) (suc k) x h = get-map f xs k x h

pub get-mapped : {X Y : Type 0} (f : X → Y) (xs : List X) (k : ℕ) (y : Y) → slice_get (map f xs) k ≡ Some y → (x : X) × (slice_get xs k ≡ Some x) × (f x ≡ y)
get-mapped f [] k y h = cc
get-mapped f (x ∷ xs) zero y h = (x, refl, some_eq (f x) y h)
get-mapped f (x ∷ xs) (suc k) y h = get-mapped f xs k y h

-- there is an element at a place of the list
pub there : {X : Type 0} (xs : List X) (k : ℕ) → k < length xs → (x : X) × (slice_get xs k ≡ Some x)
there [] k low = absurd (omega (arith, low))
there (x ∷ xs) zero low = (x, refl)
there (x ∷ xs) (suc k) low = there xs k (omega (arith, low))

-- a pair of a list by its place
pub pair-get : (pairs : List (ℕ × ℕ)) (j : ℕ) (q : ℕ × ℕ) → slice_get pairs j ≡ Some q → is_pair pairs q.0 q.1 ≡ true
unfolding is_pair
pair-get [] j q h = cc
pair-get (x ∷ pairs) zero q h =
    let e : x ≡ q = some_eq x q h in
    or_left ((x.0 == q.0) && (x.1 == q.1)) (list_any (λ y. (y.0 == q.0) && (y.1 == q.1)) pairs) (and_from (x.0 == q.0) (x.1 == q.1) (eq-eqb x.0 q.0 (ap (λ y. y.0) e)) (eq-eqb x.1 q.1 (ap (λ y. y.1) e)))
pair-get (x ∷ pairs) (suc j) q h = or_right ((x.0 == q.0) && (x.1 == q.1)) (list_any (λ y. (y.0 == q.0) && (y.1 == q.1)) pairs) (pair-get pairs j q h)

pub get-pair : (pairs : List (ℕ × ℕ)) (a b : ℕ) → is_pair pairs a b ≡ true → (j : ℕ) × (slice_get pairs j ≡ Some (a, b))
unfolding is_pair
get-pair [] a b h = absurd (false≢true h)
get-pair (x ∷ pairs) a b h = elim (or_cases ((x.0 == a) && (x.1 == b)) (list_any (λ y. (y.0 == a) && (y.1 == b)) pairs) h) [
  | inl here ↦ (
      let both = and_parts (x.0 == a) (x.1 == b) here in
      let e : x ≡ (a, b) = ap (λ y. (y, x.1)) (eqb-true x.0 a both.0) ∙ ap (λ y. (a, y)) (eqb-true x.1 b both.1) in
      (0, ap (λ y. Some y) e))
  | inr there ↦ (let r = get-pair pairs a b there in (suc r.0, r.1))
]

-- what stands at a place of a list is in it
pub has-get : (xs : List ℕ) (n a : ℕ) → slice_get xs n ≡ Some a → has a xs ≡ true
unfolding has
has-get [] n a h = cc
has-get (x ∷ xs) zero a h = or_left (x == a) (list_any (λ c. c == a) xs) (eq-eqb x a (some_eq x a h))
has-get (x ∷ xs) (suc n) a h = or_right (x == a) (list_any (λ c. c == a) xs) (has-get xs n a h)

pub has-append : (a : ℕ) (xs ys : List ℕ) → has a (xs ++ ys) ≡ has a xs || has a ys
unfolding has
has-append a xs ys = list_any-append (λ c. c == a) xs ys

pub has-either : (a : ℕ) (xs ys : List ℕ) → has a (xs ++ ys) ≡ true → (has a xs ≡ true) ⊎ (has a ys ≡ true)
has-either a xs ys h = or_cases (has a xs) (has a ys) (sym (has-append a xs ys) ∙ h)

pub has-first : (a : ℕ) (xs ys : List ℕ) → has a xs ≡ true → has a (xs ++ ys) ≡ true
has-first a xs ys h = has-append a xs ys ∙ or_left (has a xs) (has a ys) h

pub has-second : (a : ℕ) (xs ys : List ℕ) → has a ys ≡ true → has a (xs ++ ys) ≡ true
has-second a xs ys h = has-append a xs ys ∙ or_right (has a xs) (has a ys) h

pub has-last : (a b : ℕ) (xs : List ℕ) → has a (xs ++ b ∷ []) ≡ true → (has a xs ≡ true) ⊎ (b ≡ a)
unfolding has
has-last a b xs h = elim (has-either a xs (b ∷ []) h) [
  | inl earlier ↦ inl earlier
  | inr now ↦ (elim (or_cases (b == a) false now) [
    | inl same ↦ inr (eqb-true b a same)
    | inr none ↦ absurd (false≢true none)
  ])
]

pub has-self : (a : ℕ) (xs : List ℕ) → has a (xs ++ a ∷ []) ≡ true
unfolding has
has-self a xs = has-second a xs (a ∷ []) (or_left (a == a) false (eq-eqb a a refl))

-- what a member of a list brings
pub has-flat_map : {X : Type 0} (f : X → List ℕ) (xs : List X) (k : ℕ) (x : X) (a : ℕ) → slice_get xs k ≡ Some x → has a (f x) ≡ true → has a (flat_map f xs) ≡ true
has-flat_map f [] k x a is h = cc
has-flat_map f (y ∷ xs) zero x a is h = ap (has a) (flat_map-cons f y xs) ∙ has-first a (f y) (flat_map f xs) (ap (λ z. has a (f z)) (some_eq y x is) ∙ h)
has-flat_map f (y ∷ xs) (suc k) x a is h = ap (has a) (flat_map-cons f y xs) ∙ has-second a (f y) (flat_map f xs) (has-flat_map f xs k x a is h)

-- one row more
pub joined-append : (ctx : List (List ℕ)) (ps : List ℕ) → joined (ctx ++ ps ∷ []) ≡ joined ctx ++ ps
unfolding joined
joined-append [] ps = append-nil ps
joined-append (row ∷ ctx) ps = ap (λ l. row ++ l) (joined-append ctx ps) ∙ sym (append_assoc row (joined ctx) ps)
