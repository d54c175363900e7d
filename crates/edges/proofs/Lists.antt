-- The edges of sources and the sources of kinds, as far as a loop has come, and their members.
use Rattle.std.proofs.Common.{◌≡◌, inl, inr, ℕ, zero, suc, ◌+◌, ◌<◌, true, ◌==◌, List, [], ◌∷◌, ◌++◌, length, take, get_or, refl, sym, ap, ◌∙◌, arith, append_assoc, append-nil}
use Rattle.std.proofs.lemmas.Bool.{false≢true, or_cases, or_left, or_right, eqb-true, eq-eqb}
use Rattle.std.proofs.lemmas.List.{take_more}
use Rattle.std.proofs.lemmas.List.Folds.{list_any-append}
use Rattle.succinct.specs.Compression.{Compression}
use Rattle.succinct.specs.Sets.{has}
use Rattle.patterns.specs.Patterned.{Patterned}
use Rattle.terms.specs.declared.parts.Parts.{Parts}
use Rattle.edges.specs.Edges.{Edge}
use Rattle.edges.specs.Made.{edge_at, edges_at, sources_in}

edges_at-append : (g : Parts) (c : Compression) (d : Patterned) (i : ℕ) (ns ms : List ℕ) → edges_at g c d i (ns ++ ms) ≡ edges_at g c d i ns ++ edges_at g c d i ms
unfolding edges_at
edges_at-append g c d i [] ms = refl
edges_at-append g c d i (n ∷ ns) ms = ap (λ l. edge_at g c d i n ++ l) (edges_at-append g c d i ns ms) ∙ sym (append_assoc (edge_at g c d i n) (edges_at g c d i ns) (edges_at g c d i ms))

edges_at-one : (g : Parts) (c : Compression) (d : Patterned) (i n : ℕ) → edges_at g c d i (n ∷ []) ≡ edge_at g c d i n
unfolding edges_at
edges_at-one g c d i n = append-nil (edge_at g c d i n)

pub edges_at-none : (g : Parts) (c : Compression) (d : Patterned) (i : ℕ) → edges_at g c d i [] ≡ []
unfolding edges_at
edges_at-none g c d i = refl

pub edges_at-more : (g : Parts) (c : Compression) (d : Patterned) (i k n : ℕ) (ns : List ℕ) (first old new : List Edge) → k < length ns → n ≡ get_or ns k 0 → new ≡ old ++ edge_at g c d i n → old ≡ first ++ edges_at g c d i (take k ns) → new ≡ first ++ edges_at g c d i (take (k + 1) ns)
edges_at-more g c d i k n ns first old new low at more before =
    more ∙ ap (λ l. l ++ edge_at g c d i n) before ∙ append_assoc first (edges_at g c d i (take k ns)) (edge_at g c d i n)
    ∙ ap (λ l. first ++ l) (ap (λ l. edges_at g c d i (take k ns) ++ l) (sym (edges_at-one g c d i n)) ∙ sym (edges_at-append g c d i (take k ns) (n ∷ [])) ∙ ap (λ x. edges_at g c d i (take k ns ++ x ∷ [])) at ∙ sym (ap (edges_at g c d i) (take_more ns k 0 low)))

sources_in-append : (lists : List (List ℕ)) (ks js : List ℕ) → sources_in lists (ks ++ js) ≡ sources_in lists ks ++ sources_in lists js
unfolding sources_in
sources_in-append lists [] js = refl
sources_in-append lists (k ∷ ks) js = ap (λ l. get_or lists k [] ++ l) (sources_in-append lists ks js) ∙ sym (append_assoc (get_or lists k []) (sources_in lists ks) (sources_in lists js))

sources_in-one : (lists : List (List ℕ)) (k : ℕ) → sources_in lists (k ∷ []) ≡ get_or lists k []
unfolding sources_in
sources_in-one lists k = append-nil (get_or lists k [])

pub sources_in-none : (lists : List (List ℕ)) → sources_in lists [] ≡ []
unfolding sources_in
sources_in-none lists = refl

pub sources_in-more : (lists : List (List ℕ)) (j k : ℕ) (ks first old new : List ℕ) → j < length ks → k ≡ get_or ks j 0 → new ≡ old ++ get_or lists k [] → old ≡ first ++ sources_in lists (take j ks) → new ≡ first ++ sources_in lists (take (j + 1) ks)
sources_in-more lists j k ks first old new low at more before =
    more ∙ ap (λ l. l ++ get_or lists k []) before ∙ append_assoc first (sources_in lists (take j ks)) (get_or lists k [])
    ∙ ap (λ l. first ++ l) (ap (λ l. sources_in lists (take j ks) ++ l) (sym (sources_in-one lists k)) ∙ sym (sources_in-append lists (take j ks) (k ∷ [])) ∙ ap (λ x. sources_in lists (take j ks ++ x ∷ [])) at ∙ sym (ap (sources_in lists) (take_more ks j 0 low)))

-- a source of the kinds is one of some kind
pub in-kind : (lists : List (List ℕ)) (ks : List ℕ) (n : ℕ) → has n (sources_in lists ks) ≡ true → (k : ℕ) × (has k ks ≡ true) × (has n (get_or lists k []) ≡ true)
unfolding sources_in
in-kind lists [] n h = absurd (false≢true h)
in-kind lists (k ∷ ks) n h = elim (or_cases (has n (get_or lists k [])) (has n (sources_in lists ks)) (sym (list_any-append (λ y. n == y) (get_or lists k []) (sources_in lists ks)) ∙ h)) [
  | inl here ↦ (k, or_left (k == k) (has k ks) (eq-eqb k k refl), here)
  | inr there ↦ (let r = in-kind lists ks n there in (r.0, or_right (r.0 == k) (has r.0 ks) r.1, r.2))
]

pub of-kind : (lists : List (List ℕ)) (ks : List ℕ) (n k : ℕ) → has k ks ≡ true → has n (get_or lists k []) ≡ true → has n (sources_in lists ks) ≡ true
unfolding sources_in
of-kind lists [] n k h h' = absurd (false≢true h)
of-kind lists (j ∷ ks) n k h h' = list_any-append (λ y. n == y) (get_or lists j []) (sources_in lists ks) ∙ elim (or_cases (k == j) (has k ks) h) [
  | inl here ↦ or_left (has n (get_or lists j [])) (has n (sources_in lists ks)) (ap (λ x. has n (get_or lists x [])) (sym (eqb-true k j here)) ∙ h')
  | inr there ↦ or_right (has n (get_or lists j [])) (has n (sources_in lists ks)) (of-kind lists ks n k there h')
]

-- a member of a list by its place
pub has-at : (xs : List ℕ) (i d : ℕ) → i < length xs → has (get_or xs i d) xs ≡ true
has-at [] i d h = absurd (omega (arith, h))
has-at (x ∷ xs) zero d h = or_left (x == x) (has x xs) (eq-eqb x x refl)
has-at (x ∷ xs) (suc i) d h = or_right (get_or xs i d == x) (has (get_or xs i d) xs) (has-at xs i d (omega (arith, h)))
