-- Lists of tables, one of which has a number more.
use Rattle.std.proofs.Common.{◌≡◌, ◌≢◌, ◌∙◌, ap, sym, refl, arith, ℕ, zero, suc, ◌<◌, Bool, true, List, [], ◌∷◌, length, map, set, slice_get, bytes_eq, if◌then◌else◌, Some, Result, Ok, Err, OnOk, OnErr, inl, inr, string_bytes}
use Rattle.std.specs.Prelude.{◌&&◌}
use Rattle.std.specs.declared.string.String.{String}
use Rattle.std.specs.BTreeMap.{BTreeMap, IsUnchanged, is_at, get_by_text}
use Rattle.std.specs.Map.{lookup}
use Rattle.std.specs.Ordering.{nat_cmp}
use Rattle.std.specs.Cmp.Lexicographic.{slice_cmp}
use Rattle.std.proofs.lemmas.Bool.Decides.{eqb_tells}
use Rattle.std.proofs.lemmas.Bool.{false_from_ne_true}
use Rattle.known_classes.specs.NameTables.{Table, PutsAt}
use Rattle.known_classes.proofs.Merging.{two, equal, itself}

pub swap : (a b : List ℕ) → bytes_eq a b ≡ bytes_eq b a
swap a b = elim (two (bytes_eq a b)) [
  | inl t ↦ t ∙ sym (ap (bytes_eq b) (equal a b t) ∙ itself b)
  | inr f ↦ f ∙ sym (false_from_ne_true (bytes_eq b a) (λ t. let q : bytes_eq a b ≡ true = ap (bytes_eq a) (equal b a t) ∙ itself a in absurd cc))
]

pub set-here : {A : Type 0} (xs : List A) (i : ℕ) (y : A) → i < length xs → slice_get (set xs i y) i ≡ Some y
set-here [] i y l = absurd (omega arith)
set-here (x ∷ xs) zero y l = refl
set-here (x ∷ xs) (suc i) y l = set-here xs i y (omega arith)

pub set-else : {A : Type 0} (xs : List A) (i k : ℕ) (y : A) → i ≢ k → slice_get (set xs i y) k ≡ slice_get xs k
set-else [] i k y h = refl
set-else (x ∷ xs) zero zero y h = absurd (h refl)
set-else (x ∷ xs) zero (suc k) y h = refl
set-else (x ∷ xs) (suc i) zero y h = refl
set-else (x ∷ xs) (suc i) (suc k) y h = set-else xs i k y (λ e. h (ap suc e))

pub map-set : {A B : Type 0} (f : A → B) (xs : List A) (i : ℕ) (y : A) → map f (set xs i y) ≡ set (map f xs) i (f y)
map-set f [] i y = refl
map-set f (x ∷ xs) zero y = refl
map-set {A} {B} f (x ∷ xs) (suc i) y = ap (λ (r : List B). f x ∷ r) (map-set f xs i y)

length-set : {A : Type 0} (xs : List A) (i : ℕ) (y : A) → length (set xs i y) ≡ length xs
length-set [] i y = refl
length-set (x ∷ xs) zero y = refl
length-set (x ∷ xs) (suc i) y = ap suc (length-set xs i y)

pub on_ok : {A E : Type 0} (r : Result A E) (P Q : Type 0) → OnOk r P → (P → Q) → OnOk r Q
on_ok (Ok x) P Q h f = f h
on_ok (Err e) P Q h f = tt

pub on_err : {A E P : Type 0} (r : Result A E) → P → OnErr r P
on_err (Ok x) p = tt
on_err (Err e) p = p

-- a table depends on its entries alone
pub same_entries : {X Y : Type 0} (m n : BTreeMap (String Y) X) → IsUnchanged m n → get_by_text n ≡ get_by_text m
same_entries m n e = ap (λ es bs. lookup (is_at (λ k. slice_cmp nat_cmp bs (string_bytes k))) es) e

-- one of the tables has a number more
pub puts_at : (place : ℕ) (text : List ℕ) (number : ℕ) (old new : List Table) (before after : Table) → slice_get old place ≡ Some before → place < length old → new ≡ set old place after → ((name : List ℕ) → after name ≡ (if bytes_eq text name then Some number else before name)) → PutsAt place text number old new
puts_at place text number old new before after b l s p = record {
  size = ap length s ∙ length-set old place after;
  each = λ k t e.
      elim (eqb_tells place k) [
        | inl h ↦
            let at : slice_get new k ≡ Some after = ap (λ (r : List Table). slice_get r k) s ∙ (ap (slice_get (set old place after)) (sym h.1) ∙ set-here old place after l) in
            let q : after ≡ t = let w : Some after ≡ Some t = sym at ∙ e in cc in
            (before, ap (slice_get old) (sym h.1) ∙ b, λ other. ap (λ (f : Table). f other) (sym q) ∙ (p other ∙ ap (λ (y : Bool). if y then Some number else before other) (swap text other ∙ sym (ap (λ (y : Bool). y && bytes_eq other text) h.0))))
        | inr h ↦
            let at : slice_get old k ≡ Some t = sym (ap (λ (r : List Table). slice_get r k) s ∙ set-else old place k after h.1) ∙ e in
            (t, at, λ other. sym (ap (λ (y : Bool). if y then Some number else t other) (ap (λ (y : Bool). y && bytes_eq other text) h.0)))
      ];
}
