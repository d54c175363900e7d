-- The pairs among types with one more type, which has no step to or from another.
use Rattle.std.proofs.Common.{◌≡◌, ◌∙◌, ap, ap₂, sym, subst, refl, arith, ℕ, zero, suc, ◌+◌, ◌-◌, ◌<◌, ◌≤◌, Bool, true, false, cond, List, [], ◌∷◌, ◌++◌, length, map, get_or, slice_index_or, append-nil, Option, Some, None}
use Rattle.std.specs.List.{AllByRecursion}
use Rattle.std.proofs.lemmas.List.{map-append}
use Rattle.type_names.specs.declared.kinds.Base.TheVariants.{Int}
use Rattle.type_names.specs.declared.kinds.Erased.{Erased}
use Rattle.offers.specs.Scenes.{Scene}
use Rattle.offers.specs.Functional.{of_base}
use Rattle.offers.specs.Pairs.{row_of, rows_of, pairs_of}
use Rattle.offers.specs.Types.{is_below_at}
use Rattle.scopes.specs.Kinds.{Kinds, listed, count, number_in, is_outcome_below, is_below_in}
use Rattle.scopes.specs.Numbers.{moved}
use Rattle.scopes.proofs.Every.{every-append}
use Rattle.scopes.proofs.Listed.{with_void, listed-void, count-void, moved-low, moved-high, get-moved, get-void, void-within}

-- both numbers of a pair, with one more type at a place
abbrev pub both : ℕ → ℕ × ℕ → ℕ × ℕ
both place q = (moved place q.0, moved place q.1)

-- the new relation is the old one on numbers that moved on, and holds of no pair with the place
record IsMoved (n p : ℕ) (old new : ℕ → ℕ → Bool) : Type 0 where
  pub same : (i j : ℕ) → i < n → j < n → new (moved p i) (moved p j) ≡ old i j
  pub none_from : (j : ℕ) → new p j ≡ false
  pub none_to : (i : ℕ) → new i p ≡ false

one : (b c : Bool) (x y : ℕ) (p i j : ℕ) → c ≡ b → x ≡ moved p i → y ≡ moved p j → cond c ((x, y) ∷ []) [] ≡ map (both p) (cond b ((i, j) ∷ []) [])
one true c x y p i j e f g = rw (e, f, g) refl
one false c x y p i j e f g = rw e refl

none : (b : Bool) (x y : ℕ) → b ≡ false → cond {A = List (ℕ × ℕ)} b ((x, y) ∷ []) [] ≡ []
none b x y e = rw e refl

abbrev cell : (ℕ → ℕ → Bool) → ℕ → ℕ → List (ℕ × ℕ)
cell f i j = cond (f i j) ((i, j) ∷ []) []

cell-at : (n p : ℕ) (old new : ℕ → ℕ → Bool) → IsMoved n p old new → (i j x y : ℕ) → i < n → j < n → x ≡ moved p i → y ≡ moved p j → cell new x y ≡ map (both p) (cell old i j)
cell-at n p old new h i j x y l m e f = one (old i j) (new x y) x y p i j (ap₂ new e f ∙ h.same i j l m) e f

row-low : (n p : ℕ) (old new : ℕ → ℕ → Bool) → IsMoved n p old new → (a : ℕ) → a < n → (m : ℕ) → m ≤ p → m ≤ n → row_of new (moved p a) m ≡ map (both p) (row_of old a m)
unfolding row_of
row-low n p old new h a l zero i j = refl
row-low n p old new h a l (suc m) i j =
    ap₂ (λ (xs ys : List (ℕ × ℕ)). xs ++ ys) (row-low n p old new h a l m (omega (arith, i)) (omega (arith, j)))
    (cell-at n p old new h a m (moved p a) m l (omega (arith, j)) refl (sym (moved-low p m (omega (arith, i)))))
    ∙ sym (map-append (both p) (row_of old a m) (cell old a m))

row-high : (n p : ℕ) (old new : ℕ → ℕ → Bool) → IsMoved n p old new → (a : ℕ) → a < n → (k m : ℕ) → m ≡ p + k → m ≤ n → row_of new (moved p a) (suc m) ≡ map (both p) (row_of old a m)
unfolding row_of
row-high n p old new h a l zero m e i =
    let q : m ≡ p = omega (arith, e) in
    let f : new (moved p a) m ≡ false = ap (new (moved p a)) q ∙ h.none_to (moved p a) in
    ap (λ (ys : List (ℕ × ℕ)). row_of new (moved p a) m ++ ys) (none (new (moved p a) m) (moved p a) m f)
    ∙ append-nil (row_of new (moved p a) m) ∙ row-low n p old new h a l m (omega (arith, q)) i
row-high n p old new h a l (suc k) zero e i = absurd (omega (arith, e))
row-high n p old new h a l (suc k) (suc m) e i =
    let q : m ≡ p + k = omega (arith, e) in
    ap₂ (λ (xs ys : List (ℕ × ℕ)). xs ++ ys) (row-high n p old new h a l k m q (omega (arith, i)))
    (cell-at n p old new h a m (moved p a) (suc m) l (omega (arith, i)) refl (sym (moved-high p m (omega (arith, q)))))
    ∙ sym (map-append (both p) (row_of old a m) (cell old a m))

row-none : (n p : ℕ) (old new : ℕ → ℕ → Bool) → IsMoved n p old new → (m : ℕ) → row_of new p m ≡ []
unfolding row_of
row-none n p old new h zero = refl
row-none n p old new h (suc m) = ap₂ (λ (xs ys : List (ℕ × ℕ)). xs ++ ys) (row-none n p old new h m) (none (new p m) p m (h.none_from m))

rows-low : (n p k : ℕ) → n ≡ p + k → (old new : ℕ → ℕ → Bool) → IsMoved n p old new → (m : ℕ) → m ≤ p → m ≤ n → rows_of (suc n) new m ≡ map (both p) (rows_of n old m)
unfolding rows_of
rows-low n p k e old new h zero i j = refl
rows-low n p k e old new h (suc m) i j =
    ap₂ (λ (xs ys : List (ℕ × ℕ)). xs ++ ys) (rows-low n p k e old new h m (omega (arith, i)) (omega (arith, j)))
    (ap (λ a. row_of new a (suc n)) (sym (moved-low p m (omega (arith, i)))) ∙ row-high n p old new h m (omega (arith, j)) k n e (omega arith))
    ∙ sym (map-append (both p) (rows_of n old m) (row_of old m n))

rows-high : (n p k : ℕ) → n ≡ p + k → (old new : ℕ → ℕ → Bool) → IsMoved n p old new → (j m : ℕ) → m ≡ p + j → m ≤ n → rows_of (suc n) new (suc m) ≡ map (both p) (rows_of n old m)
unfolding rows_of
rows-high n p k e old new h zero m f i =
    let q : m ≡ p = omega (arith, f) in
    ap (λ (ys : List (ℕ × ℕ)). rows_of (suc n) new m ++ ys) (ap (λ a. row_of new a (suc n)) q ∙ row-none n p old new h (suc n))
    ∙ append-nil (rows_of (suc n) new m) ∙ rows-low n p k e old new h m (omega (arith, q)) i
rows-high n p k e old new h (suc j) zero f i = absurd (omega (arith, f))
rows-high n p k e old new h (suc j) (suc m) f i =
    let q : m ≡ p + j = omega (arith, f) in
    ap₂ (λ (xs ys : List (ℕ × ℕ)). xs ++ ys) (rows-high n p k e old new h j m q (omega (arith, i)))
    (ap (λ a. row_of new a (suc n)) (sym (moved-high p m (omega (arith, q)))) ∙ row-high n p old new h m (omega (arith, i)) k n e (omega arith))
    ∙ sym (map-append (both p) (rows_of n old m) (row_of old m n))

pairs-by : (n p : ℕ) (old new : ℕ → ℕ → Bool) → p ≤ n → IsMoved n p old new → pairs_of (suc n) new ≡ map (both p) (pairs_of n old)
pairs-by n p old new l h =
    let e : n ≡ p + (n - p) = omega (arith, l) in
    rows-high n p (n - p) e old new h (n - p) n e (omega arith)

-- the type without a value is such a one
no-low : (v : Scene) (k : Option Erased) → is_outcome_below v None k ≡ false
no-low v None = refl
no-low v (Some t) = refl

no-high : (v : Scene) (k : Option Erased) → is_outcome_below v k None ≡ false
no-high v None = refl
no-high v (Some t) = refl

are-moved : (v : Scene) (ts : List Erased) → IsMoved (length ts) (number_in (record { types = ts; void = true }) None) (is_below_at v ts) (is_below_in v (record { types = ts; void = true }))
are-moved v ts =
    let ks : Kinds = record { types = ts; void = true } in
    let p = number_in ks None in
    let at : (i : ℕ) → get_or (listed ks) i None ≡ get_or (with_void p ts) i None = λ i. ap (λ (us : List (Option Erased)). get_or us i None) (listed-void ts) in
    let here : get_or (listed ks) p None ≡ None = at p ∙ get-void p ts (void-within ts) in
    record {
      same = λ i j l m.
          ap₂ (is_outcome_below v) (at (moved p i) ∙ get-moved p ts i (of_base Int) l) (at (moved p j) ∙ get-moved p ts j (of_base Int) m);
      none_from = λ j. ap (λ (k : Option Erased). is_outcome_below v k (get_or (listed ks) j None)) here ∙ no-low v (get_or (listed ks) j None);
      none_to = λ i. ap (is_outcome_below v (get_or (listed ks) i None)) here ∙ no-high v (get_or (listed ks) i None);
    }

pub pairs-void : (v : Scene) (ts : List Erased) → map (both (number_in (record { types = ts; void = true }) None)) (pairs_of (length ts) (is_below_at v ts)) ≡ pairs_of (count (record { types = ts; void = true })) (is_below_in v (record { types = ts; void = true }))
pairs-void v ts =
    let ks : Kinds = record { types = ts; void = true } in
    sym (ap (λ n. pairs_of n (is_below_in v ks)) (count-void ts) ∙ pairs-by (length ts) (number_in ks None) (is_below_at v ts) (is_below_in v ks) (void-within ts) (are-moved v ts))

-- where each type has a value they are the same
record AreSame (n : ℕ) (old new : ℕ → ℕ → Bool) : Type 0 where
  pub same : (i j : ℕ) → i < n → j < n → new i j ≡ old i j

same-row : (n : ℕ) (old new : ℕ → ℕ → Bool) → AreSame n old new → (a m : ℕ) → a < n → m ≤ n → row_of new a m ≡ row_of old a m
unfolding row_of
same-row n old new h a zero l i = refl
same-row n old new h a (suc m) l i = ap₂ (λ (xs : List (ℕ × ℕ)) (b : Bool). xs ++ cond b ((a, m) ∷ []) []) (same-row n old new h a m l (omega (arith, i))) (h.same a m l (omega (arith, i)))

same-rows : (n : ℕ) (old new : ℕ → ℕ → Bool) → AreSame n old new → (m : ℕ) → m ≤ n → rows_of n new m ≡ rows_of n old m
unfolding rows_of
same-rows n old new h zero i = refl
same-rows n old new h (suc m) i = ap₂ (λ (xs ys : List (ℕ × ℕ)). xs ++ ys) (same-rows n old new h m (omega (arith, i))) (same-row n old new h m n (omega (arith, i)) (omega arith))

plain-get : (ts : List Erased) (i : ℕ) (d : Erased) → i < length ts → get_or (map Some ts) i None ≡ Some (get_or ts i d)
plain-get [] i d l = absurd (omega (arith, l))
plain-get (t ∷ ts) zero d l = refl
plain-get (t ∷ ts) (suc i) d l = plain-get ts i d (omega (arith, l))

mapped : (ts : List Erased) → length (map Some ts) ≡ length ts
mapped [] = refl
mapped (t ∷ ts) = ap suc (mapped ts)

pub pairs-plain : (v : Scene) (ts : List Erased) → pairs_of (length ts) (is_below_at v ts) ≡ pairs_of (count (record { types = ts; void = false })) (is_below_in v (record { types = ts; void = false }))
unfolding listed
pairs-plain v ts =
    let ks : Kinds = record { types = ts; void = false } in
    let h : AreSame (length ts) (is_below_at v ts) (is_below_in v ks) = record { same = λ i j l m. ap₂ (is_outcome_below v) (plain-get ts i (of_base Int) l) (plain-get ts j (of_base Int) m) } in
    sym (ap (λ n. pairs_of n (is_below_in v ks)) (mapped ts) ∙ same-rows (length ts) (is_below_at v ts) (is_below_in v ks) h (length ts) (omega arith))

-- the numbers of a pair are within
abbrev IsWithin : ℕ → ℕ → ℕ × ℕ → Type 0
IsWithin m n q = (q.0 < m) × (q.1 < n)

cell-within : (b : Bool) (m n i j : ℕ) → i < m → j < n → AllByRecursion (IsWithin m n) (cond b ((i, j) ∷ []) [])
cell-within true m n i j l k = ((l, k), tt)
cell-within false m n i j l k = tt

row-within : (below : ℕ → ℕ → Bool) (m n a k : ℕ) → a < m → k ≤ n → AllByRecursion (IsWithin m n) (row_of below a k)
unfolding row_of
row-within below m n a zero l i = tt
row-within below m n a (suc k) l i = every-append (IsWithin m n) (row_of below a k) _ (row-within below m n a k l (omega (arith, i))) (cell-within (below a k) m n a k l (omega (arith, i)))

rows-within : (below : ℕ → ℕ → Bool) (m n k : ℕ) → k ≤ m → AllByRecursion (IsWithin m n) (rows_of n below k)
unfolding rows_of
rows-within below m n zero i = tt
rows-within below m n (suc k) i = every-append (IsWithin m n) (rows_of n below k) _ (rows-within below m n k (omega (arith, i))) (row-within below m n k n (omega (arith, i)) (omega arith))

every-at : (m n : ℕ) (ps : List (ℕ × ℕ)) (i : ℕ) (d : ℕ × ℕ) → AllByRecursion (IsWithin m n) ps → i < length ps → IsWithin m n (slice_index_or ps i d)
every-at m n [] i d h l = absurd (omega (arith, l))
every-at m n (p ∷ ps) zero d h l = h.0
every-at m n (p ∷ ps) (suc i) d h l = every-at m n ps i d h.1 (omega (arith, l))

pub pair-within : (n : ℕ) (below : ℕ → ℕ → Bool) (ps : List (ℕ × ℕ)) (i : ℕ) (d : ℕ × ℕ) → ps ≡ pairs_of n below → i < length ps → ((slice_index_or ps i d).0 < n) × ((slice_index_or ps i d).1 < n)
pair-within n below ps i d s l = every-at n n ps i d (subst (AllByRecursion (IsWithin n n)) (sym s) (rows-within below n n n (omega arith))) l

pub plain-pairs : (v : Scene) (ts : List Erased) (b : Bool) → b ≡ false → pairs_of (length ts) (is_below_at v ts) ≡ pairs_of (count (record { types = ts; void = b })) (is_below_in v (record { types = ts; void = b }))
plain-pairs v ts true e = absurd (let h = e in cc)
plain-pairs v ts false e = pairs-plain v ts

pub void-pairs : (v : Scene) (ts : List Erased) (b : Bool) → b ≡ true → map (both (number_in (record { types = ts; void = b }) None)) (pairs_of (length ts) (is_below_at v ts)) ≡ pairs_of (count (record { types = ts; void = b })) (is_below_in v (record { types = ts; void = b }))
void-pairs v ts true e = pairs-void v ts
void-pairs v ts false e = absurd (let h = e in cc)
