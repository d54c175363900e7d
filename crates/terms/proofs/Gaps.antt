-- The first gap along the rows is the least triple of the pairs.
use Rattle.std.proofs.Common.{◌≡◌, inl, inr, ℕ, zero, suc, ◌+◌, ◌<◌, ◌≤◌, Bool, true, false, not, ◌||◌, ◌&&◌, ◌==◌, List, [], ◌∷◌, length, get_or, Option, Some, None, is_some, refl, sym, ap, ◌∙◌, arith}
use Rattle.std.specs.List.Sorted.{IsNonDecreasing}
use Rattle.std.proofs.lemmas.Bool.{eq-eqb, ne_eqb, cases_eq, both_ways}
use Rattle.terms.proofs.Pairs.{or_then-none, pairs-known}
use Rattle.terms.specs.Typing.{is_pair}
use Rattle.terms.specs.Faults.{or_then, unless, first_below, is_gap, pairs_fault, order_fault}
use Rattle.terms.specs.Table.{has, row_at, IsTable, first_in, gap_between, gap_from, first_gap}
use Rattle.terms.specs.declared.fault.EnvFault.TheVariants.{NotTransitive}

-- none, where there is none below
pub first_below-none : {X : Type 0} (f : ℕ → Option X) (n : ℕ) → ((k : ℕ) → k < n → f k ≡ None) → first_below f n ≡ None
unfolding first_below
first_below-none f zero h = refl
first_below-none f (suc n) h = rw (first_below-none f n (λ k low. h k (omega (arith, low))), h n (omega arith)) refl

-- where there is none below, each is none
pub first_below-each : {X : Type 0} (f : ℕ → Option X) (n : ℕ) → first_below f n ≡ None → (k : ℕ) → k < n → f k ≡ None
unfolding first_below
first_below-each f zero none k low = absurd (omega (arith, low))
first_below-each f (suc n) none k low =
    let parts = or_then-none (first_below f n) (f n) none in
    elim (cases_eq k n) [
      | inl e ↦ ap f e ∙ parts.1
      | inr apart ↦ first_below-each f n parts.0 k (omega (arith, low, apart))
    ]

-- the first one, where there is none below it
pub first_below-hit : {X : Type 0} (f : ℕ → Option X) (n k : ℕ) (x : X) → k < n → first_below f k ≡ None → f k ≡ Some x → first_below f n ≡ Some x
unfolding first_below
first_below-hit f zero k x low none is = absurd (omega (arith, low))
first_below-hit f (suc n) k x low none is = elim (cases_eq k n) [
  | inl e ↦ rw (sym e, none, is) refl
  | inr apart ↦ rw (first_below-hit f n k x (omega (arith, low, apart)) none is) refl
]

pub first_below-zero : {X : Type 0} (f : ℕ → Option X) → first_below f 0 ≡ None
unfolding first_below
first_below-zero f = refl

pub first_below-step : {X : Type 0} (f : ℕ → Option X) (n : ℕ) → first_below f n ≡ None → f n ≡ None → first_below f (n + 1) ≡ None
first_below-step f n none here = first_below-none f (n + 1) (λ k low. elim (cases_eq k n) [
  | inl e ↦ ap f e ∙ here
  | inr apart ↦ first_below-each f n none k (omega (arith, low, apart))
])

-- the first answer along the numbers, met at k
pub first_below-found : {X : Type 0} (f : ℕ → Option X) (n k : ℕ) (o : Option X) → k < n → first_below f k ≡ None → o ≡ f k → is_some o ≡ true → o ≡ first_below f n
first_below-found f n k None low none is some = absurd (both_ways false refl some)
first_below-found f n k (Some x) low none is some = sym (first_below-hit f n k x low none (sym is))

first_below-same : {X : Type 0} (f g : ℕ → Option X) (n : ℕ) → ((k : ℕ) → f k ≡ g k) → first_below f n ≡ first_below g n
unfolding first_below
first_below-same f g zero h = refl
first_below-same f g (suc n) h = rw (first_below-same f g n h, h n) refl

first_in-same : {X : Type 0} (f g : ℕ → Option X) (row : List ℕ) → ((b : ℕ) → has b row ≡ true → f b ≡ g b) → first_in f row ≡ first_in g row
unfolding first_in has
first_in-same f g [] h = refl
first_in-same f g (c ∷ row) h =
    rw (h c (rw (eq-eqb c c refl) refl), first_in-same f g row (λ b stands. h b (rw stands (or_true (c == b))))) refl
  where
    or_true : (x : Bool) → x || true ≡ true
    or_true true = refl
    or_true false = refl

-- a number below all of a row doesn't stand in it
below-all : (row : List ℕ) (b j : ℕ) → ((k d : ℕ) → k < length row → b ≤ get_or row k d) → j < b → has j row ≡ false
unfolding has
below-all [] b j above low = refl
below-all (c ∷ row) b j above low =
    let first : b ≤ c = above 0 0 (omega arith) in
    rw (ne_eqb c j (λ e. omega (arith, first, e, low)), below-all row b j (λ k d short. above (suc k) d (omega (arith, short))) low) refl

-- nor does a number below the first of a rising row stand in the rest
below-rest : (row : List ℕ) (b j : ℕ) → IsNonDecreasing (b ∷ row) → j < b → has j row ≡ false
below-rest row b j rises low = below-all row b j (λ k d short. rises 0 (suc k) d (omega arith) (omega (arith, short))) low

rest-rises : (row : List ℕ) (b : ℕ) → IsNonDecreasing (b ∷ row) → IsNonDecreasing row
rest-rises row b rises i j d low high = rises (suc i) (suc j) d (omega (arith, low)) (omega (arith, high))

-- the first answer of all numbers is the first along the row, where only the row's numbers have one
first-row : {X : Type 0} (f : ℕ → Option X) (n : ℕ) (row : List ℕ) → IsNonDecreasing row → ((j : ℕ) → has j row ≡ true → j < n) → ((j : ℕ) → has j row ≡ false → f j ≡ None) → first_below f n ≡ first_in f row
unfolding first_in has
first-row f n [] rises known apart = first_below-none f n (λ k low. apart k refl)
first-row {X} f n (b ∷ row) rises known apart = go (first-row f n row (rest-rises row b rises) (λ j stands. known j (rw stands (or_true (b == j))))) (f b) refl
  where
    or_true : (x : Bool) → x || true ≡ true
    or_true true = refl
    or_true false = refl

    go : (((j : ℕ) → has j row ≡ false → f j ≡ None) → first_below f n ≡ first_in f row) → (o : Option X) → f b ≡ o → first_below f n ≡ or_then o (first_in f row)
    go rest (Some x) is = first_below-hit f n b x (known b (rw (eq-eqb b b refl) refl))
        (first_below-none f b (λ j low. apart j (rw (ne_eqb b j (λ e. omega (arith, e, low)), below-rest row b j rises low) refl))) is
    go rest None is = rest (λ j absent. elim (cases_eq b j) [
      | inl e ↦ ap f (sym e) ∙ is
      | inr other ↦ apart j (rw (ne_eqb b j other, absent) refl)
    ])

-- the pairs are of types below n
abbrev AreKnown : List (ℕ × ℕ) → ℕ → Type 0
AreKnown pairs n = (a b : ℕ) → is_pair pairs a b ≡ true → (a < n) × (b < n)

gap-none : (pairs : List (ℕ × ℕ)) (a b c : ℕ) → is_pair pairs a b && is_pair pairs b c ≡ false → unless (not (is_gap pairs a b c)) (NotTransitive a b c) ≡ None
gap-none pairs a b c h = rw h refl

and_false : (a : Bool) → a && false ≡ false
and_false true = refl
and_false false = refl

not_not : (x : Bool) → not (not x) ≡ x
not_not true = refl
not_not false = refl

-- between two types
gap-row : (pairs : List (ℕ × ℕ)) (rows : List (List ℕ)) (n a b : ℕ) → IsTable pairs rows → AreKnown pairs n → is_pair pairs a b ≡ true
    → first_below (λ c. unless (not (is_gap pairs a b c)) (NotTransitive a b c)) n ≡ gap_between rows a b (row_at rows b)
unfolding gap_between
gap-row pairs rows n a b table known above =
    first-row (λ c. unless (not (is_gap pairs a b c)) (NotTransitive a b c)) n (row_at rows b) (table.rising b)
    (λ c stands. (known b c (sym (table.holds b c) ∙ stands)).1)
    (λ c absent. gap-none pairs a b c (rw (sym (table.holds b c) ∙ absent) (and_false (is_pair pairs a b))))
    ∙ first_in-same (λ c. unless (not (is_gap pairs a b c)) (NotTransitive a b c)) (λ c. unless (has c (row_at rows a)) (NotTransitive a b c)) (row_at rows b)
    (λ c stands. ap (λ t. unless t (NotTransitive a b c)) (rw (above, sym (table.holds b c) ∙ stands, sym (table.holds a c)) (not_not (has c (row_at rows a)))))

-- above one type
gap-above : (pairs : List (ℕ × ℕ)) (rows : List (List ℕ)) (n a : ℕ) → IsTable pairs rows → AreKnown pairs n
    → first_below (λ b. first_below (λ c. unless (not (is_gap pairs a b c)) (NotTransitive a b c)) n) n ≡ gap_from rows a (row_at rows a)
unfolding gap_from
gap-above pairs rows n a table known =
    first-row (λ b. first_below (λ c. unless (not (is_gap pairs a b c)) (NotTransitive a b c)) n) n (row_at rows a) (table.rising a)
    (λ b stands. (known a b (sym (table.holds a b) ∙ stands)).1)
    (λ b absent. first_below-none (λ c. unless (not (is_gap pairs a b c)) (NotTransitive a b c)) n (λ c low. gap-none pairs a b c (rw (sym (table.holds a b) ∙ absent) refl)))
    ∙ first_in-same (λ b. first_below (λ c. unless (not (is_gap pairs a b c)) (NotTransitive a b c)) n) (λ b. gap_between rows a b (row_at rows b)) (row_at rows a)
    (λ b stands. gap-row pairs rows n a b table known (sym (table.holds a b) ∙ stands))

-- of all
pub gap-least : (pairs : List (ℕ × ℕ)) (rows : List (List ℕ)) (n : ℕ) → IsTable pairs rows → pairs_fault n 0 [] pairs ≡ None → length rows ≡ n → first_gap rows ≡ order_fault n pairs
unfolding first_gap order_fault
gap-least pairs rows n table sound len =
    rw len (sym (first_below-same (λ a. first_below (λ b. first_below (λ c. unless (not (is_gap pairs a b c)) (NotTransitive a b c)) n) n) (λ a. gap_from rows a (row_at rows a)) n
    (λ a. gap-above pairs rows n a table (λ x y h. let k = pairs-known n 0 [] pairs sound x y h in (k.0, k.1)))))

-- where there is a fault, it is the first of it and the rest
pub or-found : {X : Type 0} (o a rest : Option X) → o ≡ a → is_some o ≡ true → o ≡ or_then a rest
or-found None a rest is some = absurd (both_ways false refl some)
or-found (Some x) a rest is some = rw (sym is) refl

pub or-passed : {X : Type 0} (o a rest : Option X) → o ≡ a → is_some o ≡ false → rest ≡ or_then a rest
or-passed None a rest is none = rw (sym is) refl
or-passed (Some x) a rest is none = absurd (both_ways true none refl)

pub none-is : {X : Type 0} (o : Option X) → is_some o ≡ false → o ≡ None
none-is None h = refl
none-is (Some x) h = absurd (both_ways true h refl)
