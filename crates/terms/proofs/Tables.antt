-- The table of the pairs: what stands in a row, and how a pair is added.
use Rattle.std.proofs.Common.{◌≡◌, ◌≢◌, inl, inr, ℕ, zero, suc, ◌<◌, ◌≤◌, Bool, true, false, not, ◌||◌, ◌&&◌, ◌==◌, List, [], ◌∷◌, ◌++◌, length, map, get_or, set, Result, is_ok, Ordering, Less, Equal, Greater, refl, sym, ap, subst, ◌∙◌, arith}
use Rattle.std.specs.List.{list_any}
use Rattle.std.specs.List.Sorted.{IsNonDecreasing, IsBinarySearchResult}
use Rattle.std.specs.BTreeMap.{is_at}
use Rattle.std.specs.BTreeSet.{insert_key, keys, contains}
use Rattle.std.specs.BTreeSet.{BTreeSet}
use Rattle.std.specs.Ordering.{nat_cmp, match_ordering, is_eq}
use Rattle.std.specs.Cmp.{unsigned_tied}
use Rattle.std.specs.declared.result.Result.TheVariants.{Ok, Err}
use Rattle.std.proofs.lemmas.Bool.{eqb-true, eq-eqb, ne_eqb, cases_lt, cases_eq}
use Rattle.std.proofs.lemmas.List.{get_or-set_same, get_or-set_other, get_or-map, map-set, length-map}
use Rattle.std.proofs.lemmas.List.Folds.{list_any_at, list_any-append}
use Rattle.std.proofs.lemmas.List.Sorted.{searched}
use Rattle.terms.specs.Typing.{is_pair}
use Rattle.terms.specs.Table.{has, row_at, IsTable}

-- a number at a place stands in the row
has-at : (row : List ℕ) (b i : ℕ) → i < length row → get_or row i 0 ≡ b → has b row ≡ true
unfolding has
has-at row b i here is = list_any_at (λ c. c == b) row i 0 here (eq-eqb (get_or row i 0) b is)

-- a number that is at no place doesn't
has-none : (row : List ℕ) (b : ℕ) → ((k : ℕ) → k < length row → get_or row k 0 ≢ b) → has b row ≡ false
unfolding has
has-none [] b apart = refl
has-none (c ∷ row) b apart =
    rw (ne_eqb c b (apart 0 (omega arith))) (has-none row b (λ k short. apart (suc k) (omega (arith, short))))

-- a binary search tells whether the number stands in a rising row
pub has-searched : (row : List ℕ) (b : ℕ) (r : Result ℕ ℕ) → IsBinarySearchResult (λ y. nat_cmp y b) row r → IsNonDecreasing row → is_ok r ≡ has b row
has-searched row b (Ok i) found rises =
    let at = searched row b (Ok i) found (λ i j low high. rises i j 0 low high) in
    sym (has-at row b i at.0 at.1)
has-searched row b (Err i) found rises =
    let at = searched row b (Err i) found (λ i j low high. rises i j 0 low high) in
    sym (has-none row b (λ k short is. apart row b i k short at.1 at.2 is))
  where
    apart : (row : List ℕ) (b i k : ℕ) → k < length row → ((j : ℕ) → j < i → get_or row j 0 < b) → ((j : ℕ) → i ≤ j → j < length row → b < get_or row j 0) → get_or row k 0 ≡ b → ⊥
    apart row b i k short below above is = elim (cases_lt k i) [
      | inl low ↦ omega (arith, below k low, is)
      | inr high ↦ omega (arith, above k high short, is)
    ]

-- equality of numbers looks the same from both sides
eqb-sym : (a b : ℕ) → (a == b) ≡ (b == a)
eqb-sym a b = elim (cases_eq a b) [
  | inl e ↦ rw (eq-eqb a b e) (sym (eq-eqb b a (sym e)))
  | inr apart ↦ rw (ne_eqb a b apart) (sym (ne_eqb b a (λ e. apart (sym e))))
]

-- a set's own test is `has`
pub has-contains : (row : List ℕ) (b : ℕ) → list_any (is_at (nat_cmp b)) row ≡ has b row
unfolding has
has-contains [] b = refl
has-contains (c ∷ row) b = rw (has-contains row b, unsigned_tied b c ∙ eqb-sym b c) refl

or_swap : (x y z : Bool) → x || (y || z) ≡ (x || y) || z
or_swap true y z = refl
or_swap false y z = refl

or_comm : (x y : Bool) → x || y ≡ y || x
or_comm true true = refl
or_comm true false = refl
or_comm false true = refl
or_comm false false = refl

or_twice : (x y : Bool) → x || y ≡ (x || y) || x
or_twice true y = refl
or_twice false true = refl
or_twice false false = refl

-- what stands in a row after a number was put in at its place
pub has-insert : (row : List ℕ) (b q : ℕ) → has q (insert_key nat_cmp row b) ≡ has q row || (b == q)
unfolding has
has-insert [] b q = or_comm (b == q) false
has-insert (c ∷ row) b q = go (has-insert row b q) (nat_cmp b c) refl
  where
    go : list_any (λ x. x == q) (insert_key nat_cmp row b) ≡ list_any (λ x. x == q) row || (b == q) → (o : Ordering) → o ≡ nat_cmp b c → list_any (λ x. x == q) (match_ordering o (b ∷ c ∷ row) (c ∷ row) (c ∷ insert_key nat_cmp row b)) ≡ list_any (λ x. x == q) (c ∷ row) || (b == q)
    go more Less is = or_comm (b == q) (list_any (λ x. x == q) (c ∷ row))
    go more Equal is = let same : b ≡ c = eqb-true b c (sym (unsigned_tied b c) ∙ ap is_eq (sym is)) in rw same (or_twice (c == q) (list_any (λ x. x == q) row))
    go more Greater is = rw more (or_swap (c == q) (list_any (λ x. x == q) row) (b == q))

-- the pairs, and one more
is_pair-more : (earlier : List (ℕ × ℕ)) (lower upper a b : ℕ) → is_pair (earlier ++ (lower, upper) ∷ []) a b ≡ is_pair earlier a b || ((lower == a) && (upper == b))
unfolding is_pair
is_pair-more earlier lower upper a b = list_any-append (λ p. (p.0 == a) && (p.1 == b)) earlier ((lower, upper) ∷ []) ∙ ap (λ x. is_pair earlier a b || x) (or_false ((lower == a) && (upper == b)))
  where
    or_false : (x : Bool) → x || false ≡ x
    or_false true = refl
    or_false false = refl

-- the table with a pair added to the row of its lower side
pub table-more : (earlier : List (ℕ × ℕ)) (rows more : List (List ℕ)) (lower upper : ℕ) (row : List ℕ) → IsTable earlier rows → lower < length rows
    → row ≡ insert_key nat_cmp (row_at rows lower) upper → IsNonDecreasing row → more ≡ set rows lower row → IsTable (earlier ++ (lower, upper) ∷ []) more
table-more earlier rows more lower upper row table low is rises put = record {
  holds = λ a b. elim (cases_eq lower a) [
    | inl e ↦ here a b e
    | inr apart ↦ there a b apart
  ];
  rising = λ a. elim (cases_eq lower a) [
    | inl e ↦ subst (λ r. IsNonDecreasing r) (sym (at_lower a e)) rises
    | inr apart ↦ subst (λ r. IsNonDecreasing r) (sym (elsewhere a apart)) (table.rising a)
  ];
}
  where
    at_lower : (a : ℕ) → lower ≡ a → row_at more a ≡ row
    at_lower a e = rw (put, sym e) (get_or-set_same rows lower row [] low)

    elsewhere : (a : ℕ) → lower ≢ a → row_at more a ≡ row_at rows a
    elsewhere a apart = rw put (get_or-set_other rows lower a row [] (λ e. apart (sym e)))

    here : (a b : ℕ) → lower ≡ a → has b (row_at more a) ≡ is_pair (earlier ++ (lower, upper) ∷ []) a b
    here a b e = rw (at_lower a e, is, has-insert (row_at rows lower) upper b, table.holds lower b, is_pair-more earlier lower upper a b, e, eq-eqb a a refl) refl

    or_none : (x : Bool) → x ≡ x || false
    or_none true = refl
    or_none false = refl

    there : (a b : ℕ) → lower ≢ a → has b (row_at more a) ≡ is_pair (earlier ++ (lower, upper) ∷ []) a b
    there a b apart = rw (elsewhere a apart, table.holds a b, is_pair-more earlier lower upper a b, ne_eqb lower a apart) (or_none (is_pair earlier a b))

-- no pair, and no row with a number
pub table-empty : (rows : List (List ℕ)) → ((a : ℕ) → row_at rows a ≡ []) → IsTable [] rows
unfolding has is_pair
table-empty rows empty = record {
  holds = λ a b. rw (empty a) refl;
  rising = λ a. subst (λ r. IsNonDecreasing r) (sym (empty a)) (λ i j d low high. absurd (omega (arith, high)));
}

-- the row of a set
row-is : (sets : List (BTreeSet ℕ)) (old : BTreeSet ℕ) (lower : ℕ) → lower < length sets → old ≡ get_or sets lower old → keys old ≡ row_at (map keys sets) lower
row-is sets old lower low is = sym (get_or-map keys sets lower old [] low ∙ ap keys (sym is))

-- the sets with a pair added
pub sets-more : (earlier : List (ℕ × ℕ)) (sets : List (BTreeSet ℕ)) (old new : BTreeSet ℕ) (lower upper : ℕ) → IsTable earlier (map keys sets) → lower < length sets → old ≡ get_or sets lower old
    → keys new ≡ insert_key nat_cmp (keys old) upper → IsNonDecreasing (keys new) → IsTable (earlier ++ (lower, upper) ∷ []) (map keys (set sets lower new))
sets-more earlier sets old new lower upper table low is put rises =
    table-more earlier (map keys sets) (map keys (set sets lower new)) lower upper (keys new) table (omega (arith, length-map sets keys, low))
    (put ∙ ap (λ r. insert_key nat_cmp r upper) (row-is sets old lower low is)) rises (map-set keys sets lower new)

not_not : (x b : Bool) → b ≡ not x → x ≡ not b
not_not true b e = rw e refl
not_not false b e = rw e refl

-- whether the pair stood before, by what the set says of it
pub pair-stood : (earlier : List (ℕ × ℕ)) (sets : List (BTreeSet ℕ)) (old : BTreeSet ℕ) (lower upper : ℕ) (added : Bool) → IsTable earlier (map keys sets) → lower < length sets → old ≡ get_or sets lower old
    → added ≡ not (contains nat_cmp old upper) → is_pair earlier lower upper ≡ not added
pair-stood earlier sets old lower upper added table low is new =
    sym (table.holds lower upper) ∙ ap (has upper) (sym (row-is sets old lower low is)) ∙ sym (has-contains (keys old) upper) ∙ not_not (contains nat_cmp old upper) added new

-- one more empty set
pub sets-push : (sets : List (BTreeSet ℕ)) (s : BTreeSet ℕ) → keys s ≡ [] → ((a : ℕ) → row_at (map keys sets) a ≡ []) → (a : ℕ) → row_at (map keys (sets ++ s ∷ [])) a ≡ []
sets-push [] s empty h zero = empty
sets-push [] s empty h (suc a) = refl
sets-push (t ∷ sets) s empty h zero = h 0
sets-push (t ∷ sets) s empty h (suc a) = sets-push sets s empty (λ b. h (suc b)) a
