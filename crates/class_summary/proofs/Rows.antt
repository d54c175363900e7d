-- The first row that speaks of a class.
use Rattle.std.proofs.Common.{◌≡◌, ◌∙◌, ap, sym, refl, ℕ, suc, ◌+◌, ◌<◌, ◌≤◌, List, ◌∷◌, length, drop, get_or, Some, None, bytes_eq, add-one}
use Rattle.std.proofs.Math.Seq.{drop-cons}
use Rattle.std.proofs.lemmas.List.{drop_all}
use Rattle.std.proofs.lemmas.Bool.{false_from_ne_true}
use Rattle.std.proofs.lemmas.Slice.Eq.{bytes_eq-Decides}
use Rattle.class_shape.specs.declared.shapes.InnerRow.{InnerRow}
use Rattle.known_classes.specs.declared.summary.Nesting.{Nesting}
use Rattle.class_summary.specs.Summaries.{nesting_in, said_by}

first : (name : List ℕ) (r : InnerRow) (rs : List InnerRow) → name ≡ r.inner → nesting_in name (r ∷ rs) ≡ Some (said_by r)
unfolding nesting_in
first name r rs e = rw ((bytes_eq-Decides name r.inner).1 e) refl

later : (name : List ℕ) (r : InnerRow) (rs : List InnerRow) → (name ≡ r.inner → ⊥) → nesting_in name (r ∷ rs) ≡ nesting_in name rs
unfolding nesting_in
later name r rs e = rw (false_from_ne_true (bytes_eq name r.inner) (λ h. e ((bytes_eq-Decides name r.inner).0 h))) refl

-- the row at this place speaks of it
pub row_hit : (name : List ℕ) (rows : List InnerRow) (i : ℕ) (r : InnerRow) (n : Nesting) → i < length rows → r ≡ get_or rows i r → name ≡ r.inner → n ≡ said_by r → nesting_in name rows ≡ nesting_in name (drop i rows) → Some n ≡ nesting_in name rows
row_hit name rows i r n l at e v h =
    ap Some v ∙ sym (h ∙ (ap (nesting_in name) (drop-cons rows i r l) ∙ (ap (λ x. nesting_in name (x ∷ drop (suc i) rows)) (sym at) ∙ first name r (drop (suc i) rows) e)))

-- the row at this place speaks of another class
pub row_on : (name : List ℕ) (rows : List InnerRow) (i : ℕ) (r : InnerRow) → i < length rows → r ≡ get_or rows i r → (name ≡ r.inner → ⊥) → nesting_in name rows ≡ nesting_in name (drop i rows) → nesting_in name rows ≡ nesting_in name (drop (i + 1) rows)
row_on name rows i r l at e h =
    h ∙ (ap (nesting_in name) (drop-cons rows i r l) ∙ (ap (λ x. nesting_in name (x ∷ drop (suc i) rows)) (sym at) ∙ (later name r (drop (suc i) rows) e ∙ ap (λ k. nesting_in name (drop k rows)) (sym (add-one i)))))

-- no row speaks of it
pub row_end : (name : List ℕ) (rows : List InnerRow) (i : ℕ) → length rows ≤ i → nesting_in name rows ≡ nesting_in name (drop i rows) → None ≡ nesting_in name rows
unfolding nesting_in
row_end name rows i l h = sym (h ∙ ap (nesting_in name) (drop_all i rows l))
