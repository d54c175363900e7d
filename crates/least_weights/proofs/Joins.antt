-- Two lists read in step that are made of the same two lists.
use Rattle.std.proofs.Common.{◌≡◌, ◌⊎◌, inl, inr, ℕ, zero, suc, List, [], ◌∷◌, ◌++◌, map, slice_get, Some, refl, ap}
use Rattle.edges.proofs.Options.{some_eq}

-- an element of the first list, or of the second
pub record InFirst {X A B : Type 0} (f : X → A) (f' : X → B) (xs : List X) (n : ℕ) (a : A) (b : B) : Type 0 where
  pub item : X
  pub is : slice_get xs n ≡ Some item
  pub one : f item ≡ a
  pub other : f' item ≡ b

pub record InSecond {Y A B : Type 0} (h : Y → A) (h' : Y → B) (ys : List Y) (a : A) (b : B) : Type 0 where
  pub place : ℕ
  pub item : Y
  pub is : slice_get ys place ≡ Some item
  pub one : h item ≡ a
  pub other : h' item ≡ b

second-of : {Y A B : Type 0} (h : Y → A) (h' : Y → B) (ys : List Y) (n : ℕ) (a : A) (b : B) → slice_get (map h ys) n ≡ Some a → slice_get (map h' ys) n ≡ Some b → InSecond h h' ys a b
second-of h h' [] n a b e e' = cc
second-of h h' (y ∷ ys) zero a b e e' = record { place = 0; item = y; is = refl; one = some_eq (h y) a e; other = some_eq (h' y) b e' }
second-of h h' (y ∷ ys) (suc n) a b e e' =
    let r : InSecond h h' ys a b = second-of h h' ys n a b e e' in
    record { place = suc r.place; item = r.item; is = r.is; one = r.one; other = r.other }

pub split : {X Y A B : Type 0} (f : X → A) (f' : X → B) (h : Y → A) (h' : Y → B) (xs : List X) (ys : List Y) (n : ℕ) (a : A) (b : B) → slice_get (map f xs ++ map h ys) n ≡ Some a → slice_get (map f' xs ++ map h' ys) n ≡ Some b → InFirst f f' xs n a b ⊎ InSecond h h' ys a b
split f f' h h' [] ys n a b e e' = inr (second-of h h' ys n a b e e')
split f f' h h' (x ∷ xs) ys zero a b e e' = inl (record { item = x; is = refl; one = some_eq (f x) a e; other = some_eq (f' x) b e' })
split {X} {Y} {A} {B} f f' h h' (x ∷ xs) ys (suc n) a b e e' = go (split f f' h h' xs ys n a b e e')
  where
    go : InFirst f f' xs n a b ⊎ InSecond h h' ys a b → InFirst f f' (x ∷ xs) (suc n) a b ⊎ InSecond h h' ys a b
    go (inl r) = inl (record { item = r.item; is = r.is; one = r.one; other = r.other })
    go (inr r) = inr r

pub at-first : {X A : Type 0} (f : X → A) (xs : List X) (ys : List A) (n : ℕ) (x : X) → slice_get xs n ≡ Some x → slice_get (map f xs ++ ys) n ≡ Some (f x)
at-first f [] ys n x h = cc
at-first f (y ∷ xs) ys zero x h = ap (λ z. Some (f z)) (some_eq y x h)
at-first f (y ∷ xs) ys (suc n) x h = at-first f xs ys n x h

at-mapped : {Y A : Type 0} (h : Y → A) (ys : List Y) (j : ℕ) (y : Y) → slice_get ys j ≡ Some y → slice_get (map h ys) j ≡ Some (h y)
at-mapped h [] j y e = cc
at-mapped h (z ∷ ys) zero y e = ap (λ x. Some (h x)) (some_eq z y e)
at-mapped h (z ∷ ys) (suc j) y e = at-mapped h ys j y e

pub at-second : {X Y A B : Type 0} (f : X → A) (f' : X → B) (h : Y → A) (h' : Y → B) (xs : List X) (ys : List Y) (j : ℕ) (y : Y) → slice_get ys j ≡ Some y → (n : ℕ) × (slice_get (map f xs ++ map h ys) n ≡ Some (h y)) × (slice_get (map f' xs ++ map h' ys) n ≡ Some (h' y))
at-second f f' h h' [] ys j y e = (j, at-mapped h ys j y e, at-mapped h' ys j y e)
at-second f f' h h' (x ∷ xs) ys j y e = (let r = at-second f f' h h' xs ys j y e in (suc r.0, r.1, r.2))
