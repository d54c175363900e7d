-- Where an item goes among sorted ones, by halving.
use Rattle.std.proofs.Common.{◌≡◌, ◌∙◌, ap, sym, subst, refl, rules, arith, ℕ, zero, suc, ◌<◌, ◌≤◌, List, [], ◌∷◌, ◌++◌, length, take, drop, get_or, Some, None, Ordering, Less, Equal, Greater}
use Rattle.std.specs.List.{AllByRecursion}
use Rattle.std.specs.Ordering.{nat_cmp, ordering_reverse}
use Rattle.std.specs.Cmp.Lexicographic.{slice_cmp}
use Rattle.std.proofs.lemmas.Cmp.{nat_list_cmp_total}
use Rattle.std.proofs.lemmas.Map.Lookups.{exact_bytes}
use Rattle.std.proofs.lemmas.List.{take-append-drop}
use Rattle.offers.specs.Scenes.{put, put_by, sorted}
use Rattle.offers.specs.Sorting.{Rises, IsBefore, IsPlace}

-- the key stands behind an item, or before it
abbrev pub IsPast : {A : Type 0} → (A → List ℕ) → List ℕ → A → Type 0
IsPast text key y = slice_cmp nat_cmp key (text y) ≡ Greater

abbrev pub IsAhead : {A : Type 0} → (A → List ℕ) → List ℕ → A → Type 0
IsAhead text key y = slice_cmp nat_cmp key (text y) ≡ Less

through : (a b c : List ℕ) → slice_cmp nat_cmp a b ≡ Less → slice_cmp nat_cmp b c ≡ Less → slice_cmp nat_cmp a c ≡ Less
through a b c = nat_list_cmp_total.trans a b c

turned : (a b : List ℕ) → slice_cmp nat_cmp a b ≡ ordering_reverse (slice_cmp nat_cmp b a)
turned a b = nat_list_cmp_total.antisymm a b

pub greater : (a b : List ℕ) → slice_cmp nat_cmp a b ≡ Greater → slice_cmp nat_cmp b a ≡ Less
greater a b e = turned b a ∙ ap ordering_reverse e

less : (a b : List ℕ) → slice_cmp nat_cmp a b ≡ Less → slice_cmp nat_cmp b a ≡ Greater
less a b e = turned b a ∙ ap ordering_reverse e

before-at : {A : Type 0} (text : A → List ℕ) (x : A) (xs : List A) (i : ℕ) (y : A) → i < length xs → y ≡ get_or xs i y → AllByRecursion (IsBefore text x) xs → IsBefore text x y
before-at text x [] i y l e a = absurd (omega (arith, l))
before-at text x (z ∷ xs) zero y l e a = subst (IsBefore text x) (sym e) a.0
before-at text x (z ∷ xs) (suc i) y l e a = before-at text x xs i y (omega arith) e a.1

-- what the key stands behind, where it stands behind the item at a place
pub past-on : {A : Type 0} (text : A → List ℕ) (xs : List A) (i : ℕ) (y : A) (key : List ℕ) → Rises text xs → i < length xs → y ≡ get_or xs i y → IsPast text key y → AllByRecursion (IsPast text key) (take (suc i) xs)
unfolding Rises
past-on text [] i y key r l e h = absurd (omega (arith, l))
past-on text (x ∷ xs) zero y key r l e h = (subst (IsPast text key) e h, search rules)
past-on text (x ∷ xs) (suc i) y key r l e h = (less (text x) key (through (text x) (text y) key (before-at text x xs i y (omega arith) e r.0) (greater key (text y) h)), past-on text xs i y key r.1 (omega arith) e h)

-- the same before the item itself, where the key is its own
pub past-to : {A : Type 0} (text : A → List ℕ) (xs : List A) (i : ℕ) (y : A) (key : List ℕ) → Rises text xs → i < length xs → y ≡ get_or xs i y → text y ≡ key → AllByRecursion (IsPast text key) (take i xs)
unfolding Rises
past-to text [] i y key r l e h = absurd (omega (arith, l))
past-to text (x ∷ xs) zero y key r l e h = search rules
past-to text (x ∷ xs) (suc i) y key r l e h = (less (text x) key (subst (λ k. slice_cmp nat_cmp (text x) k ≡ Less) h (before-at text x xs i y (omega arith) e r.0)), past-to text xs i y key r.1 (omega arith) e h)

ahead-all : {A : Type 0} (text : A → List ℕ) (x : A) (key : List ℕ) (xs : List A) → IsAhead text key x → AllByRecursion (IsBefore text x) xs → AllByRecursion (IsAhead text key) xs
ahead-all text x key [] h a = a
ahead-all text x key (y ∷ ys) h a = (through key (text x) (text y) h a.0, ahead-all text x key ys h a.1)

-- what the key stands before, where it stands before the item at a place
pub ahead-from : {A : Type 0} (text : A → List ℕ) (xs : List A) (i : ℕ) (y : A) (key : List ℕ) → Rises text xs → i < length xs → y ≡ get_or xs i y → IsAhead text key y → AllByRecursion (IsAhead text key) (drop i xs)
unfolding Rises
ahead-from text [] i y key r l e h = absurd (omega (arith, l))
ahead-from text (x ∷ xs) zero y key r l e h = let k : IsAhead text key x = subst (IsAhead text key) e h in (k, ahead-all text x key xs k r.0)
ahead-from text (x ∷ xs) (suc i) y key r l e h = ahead-from text xs i y key r.1 (omega arith) e h

-- an item goes behind those that it stands behind
put-past : {A : Type 0} (text : A → List ℕ) (x : A) (key : List ℕ) → text x ≡ key → (i : ℕ) (xs : List A) → AllByRecursion (IsPast text key) (take i xs) → put text x xs ≡ take i xs ++ put text x (drop i xs)
unfolding put
put-past text x key k zero [] a = refl
put-past text x key k zero (y ∷ ys) a = refl
put-past text x key k (suc i) [] a = refl
put-past text x key k (suc i) (y ∷ ys) a = ap (λ o. put_by o x y ys (put text x ys)) (ap (λ t. slice_cmp nat_cmp t (text y)) k ∙ a.0) ∙ ap (λ z. y ∷ z) (put-past text x key k i ys a.1)

put-ahead : {A : Type 0} (text : A → List ℕ) (x : A) (key : List ℕ) → text x ≡ key → (xs : List A) → AllByRecursion (IsAhead text key) xs → put text x xs ≡ x ∷ xs
unfolding put
put-ahead text x key k [] a = refl
put-ahead text x key k (y ∷ ys) a = ap (λ o. put_by o x y ys (put text x ys)) (ap (λ t. slice_cmp nat_cmp t (text y)) k ∙ a.0)

put-same : {A : Type 0} (text : A → List ℕ) (x y : A) (ys : List A) → slice_cmp nat_cmp (text x) (text y) ≡ Equal → put text x (y ∷ ys) ≡ y ∷ ys
unfolding put
put-same text x y ys e = ap (λ o. put_by o x y ys (put text x ys)) e

pub place-between : {A : Type 0} (text : A → List ℕ) (xs : List A) (i j : ℕ) (key : List ℕ) → i ≤ j → j ≤ i → j ≤ length xs → AllByRecursion (IsPast text key) (take i xs) → AllByRecursion (IsAhead text key) (drop j xs) → IsPlace text key xs (Some i)
place-between text xs i j key l m n p a =
    let s : j ≡ i = omega (arith, l, m) in
    let b : AllByRecursion (IsAhead text key) (drop i xs) = subst (λ n. AllByRecursion (IsAhead text key) (drop n xs)) s a in
    record {
      within = omega (arith, l, n);
      goes = λ x k. put-past text x key k i xs p ∙ ap (λ z. take i xs ++ z) (put-ahead text x key k (drop i xs) b);
    }

at-place : {A : Type 0} (xs : List A) (i : ℕ) (y : A) → i < length xs → y ≡ get_or xs i y → drop i xs ≡ y ∷ drop (suc i) xs
at-place [] i y l e = absurd (omega (arith, l))
at-place {A} (x ∷ xs) zero y l e = ap (λ (z : A). z ∷ xs) (sym e)
at-place (x ∷ xs) (suc i) y l e = at-place xs i y (omega arith) e

pub place-same : {A : Type 0} (text : A → List ℕ) (xs : List A) (i : ℕ) (y : A) (key : List ℕ) → Rises text xs → i < length xs → y ≡ get_or xs i y → slice_cmp nat_cmp key (text y) ≡ Equal → IsPlace text key xs None
place-same text xs i y key r l e h = record {
  within = tt;
  goes = λ x k.
      put-past text x key k i xs (past-to text xs i y key r l e (sym (exact_bytes key (text y) h)))
      ∙ ap (λ z. take i xs ++ z) (ap (put text x) (at-place xs i y l e) ∙ put-same text x y (drop (suc i) xs) (ap (λ t. slice_cmp nat_cmp t (text y)) k ∙ h) ∙ sym (at-place xs i y l e))
      ∙ take-append-drop i xs;
}

-- what is sorted rises
every-by : {A : Type 0} (P : A → Type 0) (o : Ordering) (x y : A) (ys more : List A) → P x → P y → AllByRecursion P ys → AllByRecursion P more → AllByRecursion P (put_by o x y ys more)
every-by P Less x y ys more p q h k = (p, (q, h))
every-by P Equal x y ys more p q h k = (q, h)
every-by P Greater x y ys more p q h k = (q, k)

put-every : {A : Type 0} (text : A → List ℕ) (P : A → Type 0) (x : A) (ys : List A) → P x → AllByRecursion P ys → AllByRecursion P (put text x ys)
unfolding put
put-every text P x [] p h = (p, search rules)
put-every text P x (y ∷ ys) p h = every-by P (slice_cmp nat_cmp (text x) (text y)) x y ys (put text x ys) p h.0 h.1 (put-every text P x ys p h.1)

before-all : {A : Type 0} (text : A → List ℕ) (x y : A) (ys : List A) → IsBefore text x y → AllByRecursion (IsBefore text y) ys → AllByRecursion (IsBefore text x) ys
before-all text x y [] h a = a
before-all text x y (z ∷ zs) h a = (through (text x) (text y) (text z) h a.0, before-all text x y zs h a.1)

rises-by : {A : Type 0} (text : A → List ℕ) (o : Ordering) (x y : A) (ys more : List A) → slice_cmp nat_cmp (text x) (text y) ≡ o → Rises text (y ∷ ys) → (IsBefore text y x → AllByRecursion (IsBefore text y) more) → Rises text more → Rises text (put_by o x y ys more)
unfolding Rises
rises-by text Less x y ys more e r f k = ((e, before-all text x y ys e r.0), r)
rises-by text Equal x y ys more e r f k = r
rises-by text Greater x y ys more e r f k = (f (greater (text x) (text y) e), k)

pub put-rises : {A : Type 0} (text : A → List ℕ) (x : A) (ys : List A) → Rises text ys → Rises text (put text x ys)
unfolding put Rises
put-rises text x [] r = (search rules, search rules)
put-rises text x (y ∷ ys) r = rises-by text (slice_cmp nat_cmp (text x) (text y)) x y ys (put text x ys) refl r (λ l. put-every text (IsBefore text y) x ys l r.0) (put-rises text x ys r.1)

pub sorted-rises : {A : Type 0} (text : A → List ℕ) (xs : List A) → Rises text (sorted text xs)
unfolding sorted Rises
sorted-rises text [] = search rules
sorted-rises text (x ∷ xs) = put-rises text x (sorted text xs) (sorted-rises text xs)
