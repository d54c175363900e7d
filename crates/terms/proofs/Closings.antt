-- What the marks tell stays right, and a closed type has no gap above it.
use Rattle.std.proofs.Common.{◌≡◌, ◌⊎◌, inl, inr, ℕ, suc, ◌+◌, ◌<◌, Bool, true, false, ◌||◌, ◌==◌, List, [], ◌∷◌, length, get_or, set, take, Option, None, refl, sym, ap, subst, ◌∙◌, arith}
use Rattle.std.specs.List.{list_all}
use Rattle.std.proofs.lemmas.Bool.{and_parts, false≢true, eqb-true, eq-eqb, cases_eq, or_cases}
use Rattle.std.proofs.lemmas.List.{get_or-set_other, take_more}
use Rattle.std.proofs.lemmas.List.Folds.{list_any-append}
use Rattle.terms.specs.Table.{has, row_at, first_in, gap_between, gap_from}
use Rattle.terms.specs.Closed.{IsWithin, IsClosed, AreClosed}

-- what holds of all of a row holds of what stands in it
pub all-has : (p : ℕ → Bool) (row : List ℕ) → list_all p row ≡ true → (c : ℕ) → has c row ≡ true → p c ≡ true
unfolding has
all-has p [] all c h = absurd (false≢true h)
all-has p (x ∷ row) all c h =
    let parts = and_parts (p x) (list_all p row) all in
    elim (or_cases (x == c) (has c row) h) [
      | inl same ↦ subst (λ y. p y ≡ true) (eqb-true x c same) parts.0
      | inr later ↦ all-has p row parts.1 c later
    ]

first_in-none : {X : Type 0} (f : ℕ → Option X) (row : List ℕ) → ((b : ℕ) → has b row ≡ true → f b ≡ None) → first_in f row ≡ None
unfolding first_in has
first_in-none f [] h = refl
first_in-none f (x ∷ row) h =
    rw (h x (rw (eq-eqb x x refl) refl), first_in-none f row (λ b stands. h b (rw stands (or_true (x == b))))) refl
  where
    or_true : (y : Bool) → y || true ≡ true
    or_true true = refl
    or_true false = refl

-- a closed type has no gap above it
pub closed-none : (rows : List (List ℕ)) (a : ℕ) → IsClosed rows a → None ≡ gap_from rows a (row_at rows a)
unfolding gap_from gap_between
closed-none rows a closed = sym (first_in-none _ (row_at rows a) (λ b above. first_in-none _ (row_at rows b) (λ c more. rw ((closed.closed b above).within c more) refl)))

-- the members' marks, with those of one row more
pub members-more : (rows : List (List ℕ)) (old new row : List ℕ) (a : ℕ) → ((x k : ℕ) → get_or old x 0 ≡ suc k → has x (row_at rows k) ≡ true) → row ≡ row_at rows a
    → ((x : ℕ) → (get_or new x 0 ≡ get_or old x 0) ⊎ ((has x row ≡ true) × (get_or new x 0 ≡ a + 1)))
    → (x k : ℕ) → get_or new x 0 ≡ suc k → has x (row_at rows k) ≡ true
members-more rows old new row a was is put x k mark = elim (put x) [
  | inl same ↦ was x k (sym same ∙ mark)
  | inr both ↦ (let at : a ≡ k = omega (arith, both.1, mark) in subst (λ n. has x (row_at rows n) ≡ true) at (ap (has x) (sym is) ∙ both.0))
]

-- the covered ones' marks, with those of a closed type's row
pub covered-more : (rows : List (List ℕ)) (old new row : List ℕ) (a b : ℕ) → ((x k : ℕ) → get_or old x 0 ≡ suc k → IsWithin rows x k) → row ≡ row_at rows b → IsWithin rows b a → IsClosed rows b
    → ((x : ℕ) → (get_or new x 0 ≡ get_or old x 0) ⊎ ((has x row ≡ true) × (get_or new x 0 ≡ a + 1)))
    → (x k : ℕ) → get_or new x 0 ≡ suc k → IsWithin rows x k
covered-more rows old new row a b was is within closed put x k mark = elim (put x) [
  | inl same ↦ was x k (sym same ∙ mark)
  | inr both ↦ (let at : a ≡ k = omega (arith, both.1, mark) in
      subst (λ n. IsWithin rows x n) at (record { within = λ c stands. within.within c ((closed.closed x (ap (has x) (sym is) ∙ both.0)).within c stands) }))
]

-- a row whose members are all marked is within
pub marked-within : (rows : List (List ℕ)) (members row : List ℕ) (a b : ℕ) → ((x k : ℕ) → get_or members x 0 ≡ suc k → has x (row_at rows k) ≡ true) → row ≡ row_at rows b
    → list_all (λ c. get_or members c 0 == (a + 1)) row ≡ true → IsWithin rows b a
marked-within rows members row a b was is all = record {
  within = λ c stands.
      let mark = eqb-true (get_or members c 0) (a + 1) (all-has (λ y. get_or members y 0 == (a + 1)) row all c (ap (has c) is ∙ stands)) in
      was c a (omega (arith, mark));
}

-- one type more is told to be closed
pub told-more : (rows : List (List ℕ)) (closed : List Bool) (a : ℕ) → AreClosed rows closed → IsClosed rows a → a < length closed → AreClosed rows (set closed a true)
told-more rows closed a was is low = record {
  told = λ k e. elim (cases_eq a k) [
    | inl same ↦ subst (IsClosed rows) same is
    | inr apart ↦ was.told k (sym (get_or-set_other closed a k true false (λ e. apart (sym e))) ∙ e)
  ];
}

or_false : (y : Bool) → y || false ≡ y
or_false true = refl
or_false false = refl

-- what stands in one more of a row
pub has-more : (row : List ℕ) (i b : ℕ) → i < length row → has b (take (i + 1) row) ≡ has b (take i row) || (get_or row i 0 == b)
unfolding has
has-more row i b here = rw (take_more row i 0 here, list_any-append (λ c. c == b) (take i row) (get_or row i 0 ∷ []), or_false (get_or row i 0 == b)) refl

-- the marks after one more of a row
pub marks-step : (row start old new : List ℕ) (i mark : ℕ) → i < length row → ((x : ℕ) → (get_or old x 0 ≡ get_or start x 0) ⊎ ((has x (take i row) ≡ true) × (get_or old x 0 ≡ mark)))
    → ((x : ℕ) → (get_or new x 0 ≡ get_or old x 0) ⊎ ((get_or row i 0 ≡ x) × (get_or new x 0 ≡ mark)))
    → (x : ℕ) → (get_or new x 0 ≡ get_or start x 0) ⊎ ((has x (take (i + 1) row) ≡ true) × (get_or new x 0 ≡ mark))
marks-step row start old new i mark here was put x = elim (put x) [
  | inl same ↦ (elim (was x) [
    | inl kept ↦ inl (same ∙ kept)
    | inr both ↦ inr (rw (has-more row i x here, both.0) refl, same ∙ both.1)
  ])
  | inr both ↦ inr (rw (has-more row i x here, eq-eqb (get_or row i 0) x both.0) (or_true (has x (take i row))), both.1)
]
  where
    or_true : (y : Bool) → y || true ≡ true
    or_true true = refl
    or_true false = refl

-- what holds of the first of a row, and of one more
pub within-step : (rows : List (List ℕ)) (row read : List ℕ) (i a : ℕ) → read ≡ row → i < length read → ((b : ℕ) → has b (take i row) ≡ true → IsWithin rows b a) → IsWithin rows (get_or read i 0) a
    → (b : ℕ) → has b (take (i + 1) row) ≡ true → IsWithin rows b a
within-step rows row read i a same here was one b stands = elim (or_cases (has b (take i row)) (get_or row i 0 == b) (sym (has-more row i b (omega (arith, here, ap length same))) ∙ stands)) [
  | inl earlier ↦ was b earlier
  | inr last ↦ subst (λ x. IsWithin rows x a) (ap (λ r. get_or r i 0) same ∙ eqb-true (get_or row i 0) b last) one
]

-- nothing stands in no row
pub has-nil : (b : ℕ) → has b [] ≡ true → ⊥
unfolding has
has-nil b h = false≢true h
