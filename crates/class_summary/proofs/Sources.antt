-- The classes around a class.
use Rattle.std.proofs.Common.{◌≡◌, ◌∙◌, ap, sym, refl, arith, subst, ℕ, zero, suc, ◌+◌, ◌-◌, ◌<◌, ◌≤◌, List, [], ◌∷◌, ◌++◌, append-nil, append_assoc, slice_get, Option, Some, None}
use Rattle.java_units.specs.declared.types.SourceClass.{SourceClass}
use Rattle.java_units.specs.UnitLaws.{outer_number, IsNested}
use Rattle.class_summary.specs.Sources.{around_by}

pub around-none : (n : ℕ) (cs : List SourceClass) → around_by n cs None ≡ []
unfolding around_by
around-none zero cs = refl
around-none (suc n) cs = refl

around-zero : (cs : List SourceClass) (at : Option ℕ) → around_by 0 cs at ≡ []
unfolding around_by
around-zero cs at = refl

around-suc : (n : ℕ) (cs : List SourceClass) (i : ℕ) → around_by (suc n) cs (Some i) ≡ i ∷ around_by n cs (outer_number (slice_get cs i))
unfolding around_by
around-suc n cs i = refl

-- one more class
pub around_on : (cs : List SourceClass) (whole old new : List ℕ) (n k i : ℕ) (at next : Option ℕ) → k < n → at ≡ Some i → next ≡ outer_number (slice_get cs i) → new ≡ old ++ i ∷ [] → whole ≡ old ++ around_by (n - k) cs at → whole ≡ new ++ around_by (n - (k + 1)) cs next
around_on cs whole old new n k i at next l a x e h =
    let s : n - k ≡ suc (n - (k + 1)) = omega arith in
    let step : around_by (n - k) cs at ≡ i ∷ around_by (n - (k + 1)) cs next = ap (λ m. around_by m cs at) s ∙ (ap (around_by (suc (n - (k + 1))) cs) a ∙ (around-suc (n - (k + 1)) cs i ∙ ap (λ o. i ∷ around_by (n - (k + 1)) cs o) (sym x))) in
    h ∙ (ap (λ r. old ++ r) step ∙ (sym (append_assoc old (i ∷ []) (around_by (n - (k + 1)) cs next)) ∙ ap (λ r. r ++ around_by (n - (k + 1)) cs next) (sym e)))

-- no class is around it
pub around_none : (cs : List SourceClass) (whole old : List ℕ) (m : ℕ) (at : Option ℕ) → at ≡ None → whole ≡ old ++ around_by m cs at → old ≡ whole
around_none cs whole old m at a h = sym (h ∙ (ap (λ r. old ++ r) (ap (around_by m cs) a ∙ around-none m cs) ∙ append-nil old))

-- all were gone through
pub around_end : (cs : List SourceClass) (whole old : List ℕ) (n k : ℕ) (at : Option ℕ) → n ≤ k → whole ≡ old ++ around_by (n - k) cs at → old ≡ whole
around_end cs whole old n k at l h =
    let z : n - k ≡ 0 = omega arith in
    sym (h ∙ (ap (λ r. old ++ r) (ap (λ m. around_by m cs at) z ∙ around-zero cs at) ∙ append-nil old))

one_class : (c : SourceClass) → c.outer ≡ None → (i o : ℕ) → outer_number (slice_get (c ∷ []) i) ≡ Some o → o < i
one_class c h zero o e = absurd (cc)
one_class c h (suc i) o e = absurd (cc)

-- a class alone, which stands in no other
pub nested_one : (cs : List SourceClass) (c : SourceClass) → cs ≡ c ∷ [] → c.outer ≡ None → IsNested cs
nested_one cs c e h = let P : List SourceClass → Type 0 = λ x. IsNested x in let k : IsNested (c ∷ []) = record { after = one_class c h } in subst P (sym e) k
