-- What a search in a row of rising places says, and what is said of lists of names one name further.
use Rattle.graphs.proofs.Elements.{in-one, none_in}
use Rattle.std.proofs.lemmas.List.Elements.{Contains-append_cases, Contains-get_or}
use Rattle.graphs.specs.Paths.{IsPathBy}
use Rattle.std.proofs.Common.{◌≡◌, ℕ, zero, suc, ◌+◌, ◌<◌, ◌≤◌, List, [], ◌∷◌, ◌++◌, length, get_or, slice_get, take, refl, sym, ap, subst, ◌∙◌, arith, inl, inr, ◌⊎◌, true, Some, Result, Ok, Err, is_ok, Contains}
use Rattle.std.specs.List.Sorted.{IsBinarySearchResult, IsPermutation, IsSorted}
use Rattle.std.specs.Ordering.{nat_cmp}
use Rattle.std.proofs.lemmas.List.{take_more, take_all, get_or_default, get_or_push, get_or_append_left, get_or_past, length_push}
use Rattle.std.proofs.lemmas.Bool.{cases_eq}
use Rattle.std.proofs.lemmas.List.Sorted.{searched, Contains-permutation, IsPermutation-sym, IsNonDecreasingBy-from_sort}
use Rattle.graphs.specs.Graph.{edges, Reaches, AreAncestors, IsEdge}
use Rattle.subtyping.specs.Places.{Rises, AreRows}

place-in : (row : List ℕ) (x : ℕ) → Contains row x → (k : ℕ) × (k < length row) × (get_or row k 0 ≡ x)
place-in row x (k, l, e) = (k, l, get_or_default row k 0 x l ∙ e)

within : (i n : ℕ) → (i < n) ⊎ (n ≤ i)
within zero zero = inr (omega arith)
within zero (suc n) = inl (omega arith)
within (suc i) zero = inr (omega arith)
within (suc i) (suc n) = elim (within i n) [
  | inl l ↦ inl (omega (arith, l))
  | inr l ↦ inr (omega (arith, l))
]

nowhere : (row : List ℕ) (x i : ℕ) → ((k : ℕ) → k < i → get_or row k 0 < x) → ((k : ℕ) → i ≤ k → k < length row → x < get_or row k 0) → Contains row x → ⊥
nowhere row x i below above h =
    let p = place-in row x h in
    elim (within p.0 i) [
      | inl l ↦ omega (arith, below p.0 l, p.2)
      | inr l ↦ omega (arith, above p.0 l p.1, p.2)
    ]

pub search-in : (row : List ℕ) (x : ℕ) (r : Result ℕ ℕ) → IsBinarySearchResult (λ y. nat_cmp y x) row r → Rises row → (is_ok r ≡ true → Contains row x) × (Contains row x → is_ok r ≡ true)
search-in row x (Ok i) h rises = let s = searched row x (Ok i) h rises in ((λ e. subst (λ y. Contains row y) s.1 (Contains-get_or row i 0 s.0)), (λ e. refl))
search-in row x (Err i) h rises = let s = searched row x (Err i) h rises in ((λ e. absurd cc), (λ e. absurd (nowhere row x i s.1 s.2 e)))

pub edges-get : (rows : List (List ℕ)) (i : ℕ) (row : List ℕ) → slice_get rows i ≡ Some row → edges rows i ≡ row
edges-get [] i row e = absurd cc
edges-get (r ∷ rs) zero row e = cc
edges-get (r ∷ rs) (suc i) row e = edges-get rs i row e

-- the first i + 1 of some names
pub each-more : (P : List ℕ → Type 0) (xs : List (List ℕ)) (i : ℕ) (x : List ℕ) → i < length xs → x ≡ get_or xs i x → ((b : List ℕ) → Contains (take i xs) b → P b) → P x → (b : List ℕ) → Contains (take (i + 1) xs) b → P b
each-more P xs i x l at before here b h = elim (Contains-append_cases (take i xs) (get_or xs i [] ∷ []) b (subst (λ l. Contains l b) (take_more xs i [] l) h)) [
  | inl a ↦ before b a
  | inr a ↦ subst P (at ∙ get_or_default xs i x [] l ∙ in-one b (get_or xs i []) a) here
]

pub each-all : (P : List ℕ → Type 0) (xs : List (List ℕ)) (i : ℕ) → length xs ≤ i → ((b : List ℕ) → Contains (take i xs) b → P b) → (b : List ℕ) → Contains xs b → P b
each-all P xs i l before b h = before b (subst (λ l. Contains l b) (sym (take_all i xs l)) h)

-- a row in another order
pub ancestors-permuted : (graph : List (List ℕ)) (node : ℕ) (xs ys zs : List ℕ) → IsPermutation xs ys → zs ≡ ys → AreAncestors graph node xs → AreAncestors graph node zs
ancestors-permuted graph node xs ys zs p e h b = (
  (λ i. (h b).0 (Contains-permutation ys xs b (IsPermutation-sym xs ys p) (subst (λ l. Contains l b) e i))),
  (λ r. subst (λ l. Contains l b) (sym e) (Contains-permutation xs ys b p ((h b).1 r))),
)

pub rises-sorted : (xs ys : List ℕ) → ys ≡ xs → IsSorted nat_cmp xs → Rises ys
rises-sorted xs ys e s = subst Rises (sym e) (λ i j l m. IsNonDecreasingBy-from_sort (λ x. x) xs s i j 0 l m)

-- the rows so far
pub record AreRowsBelow (graph rows : List (List ℕ)) (n : ℕ) : Type 0 where
  pub long : length rows ≡ n
  pub each : (i : ℕ) → i < n → AreAncestors graph i (edges rows i)
  pub rises : (i : ℕ) → i < n → Rises (edges rows i)

pub rows-none : (graph rows : List (List ℕ)) → rows ≡ [] → AreRowsBelow graph rows 0
rows-none graph rows e = record { long = ap length e; each = λ i l. absurd (omega (arith, l)); rises = λ i l. absurd (omega (arith, l)) }

at-push : (rows new : List (List ℕ)) (row : List ℕ) (n i : ℕ) → new ≡ rows ++ row ∷ [] → length rows ≡ n → (P : ℕ → List ℕ → Type 0) → ((k : ℕ) → k < n → P k (edges rows k)) → P n row → i < n + 1 → P i (edges new i)
at-push rows new row n i e long P before here l = elim (cases_eq i n) [
  | inl s ↦ subst (λ k. P k (edges new k)) (sym s) (subst (P n) (sym (ap (λ r. edges r n) e ∙ get_or_push rows row [] n long)) here)
  | inr d ↦ let low : i < n = omega (arith, l, d) in subst (P i) (sym (ap (λ r. edges r i) e ∙ get_or_append_left rows (row ∷ []) [] i (omega (arith, low, long)))) (before i low)
]

pub rows-more : (graph rows new : List (List ℕ)) (row : List ℕ) (n : ℕ) → new ≡ rows ++ row ∷ [] → AreRowsBelow graph rows n → AreAncestors graph n row → Rises row → AreRowsBelow graph new (n + 1)
rows-more graph rows new row n e r here rises = record {
  long = omega (arith, ap length e, length_push rows row, r.long);
  each = λ i l. at-push rows new row n i e r.long (λ k x. AreAncestors graph k x) r.each here l;
  rises = λ i l. at-push rows new row n i e r.long (λ k x. Rises x) r.rises rises l;
}

no-path : (graph : List (List ℕ)) (i : ℕ) (cs : List ℕ) (b : ℕ) → edges graph i ≡ [] → IsPathBy (IsEdge graph) i cs b → ⊥
unfolding IsPathBy
no-path graph i [] b e h = none_in b (subst (λ l. Contains l b) e h)
no-path graph i (c ∷ cs) b e h = none_in c (subst (λ l. Contains l c) e h.0)

no-edges : (graph : List (List ℕ)) (i b : ℕ) → length graph ≤ i → Reaches graph i b → ⊥
no-edges graph i b l r = no-path graph i r.0 b (get_or_past graph i [] l) r.1

no-ancestors : (graph : List (List ℕ)) (i : ℕ) → length graph ≤ i → AreAncestors graph i []
no-ancestors graph i l b = ((λ h. none_in b h), (λ r. absurd (no-edges graph i b l r)))

rises-none : Rises []
rises-none i j l m = absurd (omega (arith, m))

pub rows-all : (graph rows : List (List ℕ)) (n : ℕ) → length graph ≤ n → AreRowsBelow graph rows n → n ≤ length graph → AreRows graph rows
rows-all graph rows n l r u = record {
  each = λ i. elim (within i n) [
    | inl h ↦ r.each i h
    | inr h ↦ subst (AreAncestors graph i) (sym (get_or_past rows i [] (omega (arith, h, r.long)))) (no-ancestors graph i (omega (arith, h, u)))
  ];
  rises = λ i. elim (within i n) [
    | inl h ↦ r.rises i h
    | inr h ↦ subst Rises (sym (get_or_past rows i [] (omega (arith, h, r.long)))) rises-none
  ];
}
