-- The scopes at a class and those at the classes around it.
use Rattle.std.proofs.Common.{◌≡◌, ◌∙◌, ap, sym, refl, arith, subst, ℕ, zero, suc, ◌+◌, ◌<◌, List, [], ◌∷◌, ◌++◌, length, drop, map, slice_get, Option, Some, None, inl, inr, ◌⊎◌}
use Rattle.std.specs.Option.{option_map}
use Rattle.std.proofs.lemmas.List.{drop-map, length-append}
use Rattle.std.proofs.lemmas.Option.{slice_get-map, slice_get_cases}
use Rattle.java_units.specs.declared.types.SourceClass.{SourceClass}
use Rattle.java_units.specs.UnitLaws.{IsNested, outer_number}
use Rattle.class_summary.specs.Sources.{around, around_by}
use Rattle.class_summary.specs.Variables.{Scope, class_scope, scopes_at}
use Rattle.class_summary.specs.VariableEnds.{Reach, AreEnds, AreToldOutside, AreClassEnds}

around-none : (n : ℕ) (cs : List SourceClass) → around_by n cs None ≡ []
unfolding around_by
around-none zero cs = refl
around-none (suc n) cs = refl

around-zero : (cs : List SourceClass) (o : Option ℕ) → around_by 0 cs o ≡ []
unfolding around_by
around-zero cs o = refl

around-suc : (n : ℕ) (cs : List SourceClass) (i : ℕ) → around_by (suc n) cs (Some i) ≡ i ∷ around_by n cs (outer_number (slice_get cs i))
unfolding around_by
around-suc n cs i = refl

around-from : (cs : List SourceClass) (m n : ℕ) (o : Option ℕ) → ((j : ℕ) → o ≡ Some j → around_by m cs (Some j) ≡ around_by n cs (Some j)) → around_by m cs o ≡ around_by n cs o
around-from cs m n None f = around-none m cs ∙ sym (around-none n cs)
around-from cs m n (Some j) f = f j refl

-- the classes around one are the same, counted by more than its number
around-same : (cs : List SourceClass) → IsNested cs → (m n i : ℕ) → i < m → i < n → around_by m cs (Some i) ≡ around_by n cs (Some i)
around-same cs h zero n i l k = absurd (omega arith)
around-same cs h (suc m) zero i l k = absurd (omega arith)
around-same cs h (suc m) (suc n) i l k =
    around-suc m cs i ∙ (ap (λ (r : List ℕ). i ∷ r) (around-from cs m n (outer_number (slice_get cs i)) (λ j e. let a : j < i = h.after i j e in around-same cs h m n j (omega arith) (omega arith))) ∙ sym (around-suc n cs i))

drop-from : (cs : List SourceClass) (n m k j : ℕ) (o : Option ℕ) → slice_get (around_by m cs o) k ≡ Some j → ((i : ℕ) → o ≡ Some i → slice_get (around_by m cs (Some i)) k ≡ Some j → drop k (around_by m cs (Some i)) ≡ around_by n cs (Some j)) → drop k (around_by m cs o) ≡ around_by n cs (Some j)
drop-from cs n m k j None e f = absurd (let q : slice_get [] k ≡ Some j = ap (λ (r : List ℕ). slice_get r k) (sym (around-none m cs)) ∙ e in cc)
drop-from cs n m k j (Some i) e f = f i refl e

-- from one of them on they are those around that one
around-drop : (cs : List SourceClass) → IsNested cs → (n m i k j : ℕ) → i < m → i < n → slice_get (around_by m cs (Some i)) k ≡ Some j → drop k (around_by m cs (Some i)) ≡ around_by n cs (Some j)
around-drop cs h n zero i k j l w e = absurd (omega arith)
around-drop cs h n (suc m) i zero j l w e =
    let x : Some i ≡ Some j = ap (λ (r : List ℕ). slice_get r 0) (sym (around-suc m cs i)) ∙ e in
    let q : i ≡ j = cc in
    around-same cs h (suc m) n i l w ∙ ap (λ (r : ℕ). around_by n cs (Some r)) q
around-drop cs h n (suc m) i (suc k) j l w e =
    let o : Option ℕ = outer_number (slice_get cs i) in
    let x : slice_get (around_by m cs o) k ≡ Some j = ap (λ (r : List ℕ). slice_get r (suc k)) (sym (around-suc m cs i)) ∙ e in
    ap (drop (suc k)) (around-suc m cs i) ∙ drop-from cs n m k j o x (λ p q y. let a : p < i = h.after i p q in around-drop cs h n m p k j (omega arith) (omega arith) y)

-- a number that no class has stands alone
around-past : (cs : List SourceClass) (n i k j : ℕ) → slice_get cs i ≡ None → slice_get (around_by n cs (Some i)) k ≡ Some j → drop k (around_by n cs (Some i)) ≡ around_by n cs (Some j)
around-past cs zero i k j p e = absurd (let q : slice_get [] k ≡ Some j = ap (λ (r : List ℕ). slice_get r k) (sym (around-zero cs (Some i))) ∙ e in cc)
around-past cs (suc n) i zero j p e =
    let x : Some i ≡ Some j = ap (λ (r : List ℕ). slice_get r 0) (sym (around-suc n cs i)) ∙ e in
    let q : i ≡ j = cc in
    ap (λ (r : ℕ). around_by (suc n) cs (Some r)) q
around-past cs (suc n) i (suc k) j p e =
    let alone : around_by (suc n) cs (Some i) ≡ i ∷ [] = around-suc n cs i ∙ (ap (λ (q : Option SourceClass). i ∷ around_by n cs (outer_number q)) p ∙ ap (λ (r : List ℕ). i ∷ r) (around-none n cs)) in
    absurd (let q : slice_get [] k ≡ Some j = ap (λ (r : List ℕ). slice_get r (suc k)) (sym alone) ∙ e in cc)

around-on : (cs : List SourceClass) → IsNested cs → (i k j : ℕ) → slice_get (around cs i) k ≡ Some j → drop k (around cs i) ≡ around cs j
around-on cs h i k j e = elim (slice_get_cases cs i).1 [
  | inl in-list ↦ around-drop cs h (length cs) (length cs) i k j in-list.1 in-list.1 e
  | inr past ↦ around-past cs (length cs) i k j past.1 e
]

got-by : {A B : Type 0} (f : A → B) (o : Option A) (y : B) → option_map f o ≡ Some y → (x : A) × (o ≡ Some x) × (f x ≡ y)
got-by f None y e = absurd (cc)
got-by f (Some x) y e = (x, refl, let q : f x ≡ y = cc in q)

-- from one of the scopes at a class on they are those at the class of that one
scopes-on : (cs : List SourceClass) → IsNested cs → (i k : ℕ) (s : Scope) → slice_get (scopes_at cs i None) k ≡ Some s → drop k (scopes_at cs i None) ≡ scopes_at cs s.class None
scopes-on cs h i k s e =
    let got = got-by (class_scope cs) (slice_get (around cs i) k) s (sym (slice_get-map (class_scope cs) (around cs i) k) ∙ e) in
    drop-map (class_scope cs) k (around cs i) ∙ (ap (map (class_scope cs)) (around-on cs h i k got.0 got.1) ∙ ap (λ (x : Scope). scopes_at cs x.class None) got.2)

told-on : (cs : List SourceClass) → IsNested cs → (tables : List (List (Option Reach))) → AreClassEnds cs tables → (i k : ℕ) (s : Scope) (ends : List (Option Reach)) → slice_get (scopes_at cs i None) k ≡ Some s → slice_get tables s.class ≡ Some ends → AreEnds (drop k (scopes_at cs i None)) ends
told-on cs h tables t i k s ends e at =
    let P : List Scope → Type 0 = λ ss. AreEnds ss ends in
    subst P (sym (scopes-on cs h i k s e)) (t.each s.class ends at)

-- the tables of the classes tell of the scopes further out
pub told_outside : (cs : List SourceClass) → IsNested cs → (tables : List (List (Option Reach))) → AreClassEnds cs tables → (i : ℕ) (method : Option ℕ) → AreToldOutside (scopes_at cs i method) tables
told_outside cs h tables t i None = record { each = λ k s ends l e at. told-on cs h tables t i k s ends e at }
told_outside cs h tables t i (Some m) = record { each = outside }
  where
    outside : (k : ℕ) (s : Scope) (ends : List (Option Reach)) → 0 < k → slice_get (scopes_at cs i (Some m)) k ≡ Some s → slice_get tables s.class ≡ Some ends → AreEnds (drop k (scopes_at cs i (Some m))) ends
    outside zero s ends l e at = absurd (omega arith)
    outside (suc k) s ends l e at = told-on cs h tables t i k s ends e at

-- no class is told of yet
pub no_classes : (cs : List SourceClass) → AreClassEnds cs []
no_classes cs = record { each = λ i ends e. absurd (cc) }

pushed-at : {A : Type 0} (xs : List A) (x y : A) (k : ℕ) → slice_get (xs ++ x ∷ []) k ≡ Some y → (slice_get xs k ≡ Some y) ⊎ ((k ≡ length xs) × (x ≡ y))
pushed-at [] x y zero e = inr (refl, let q : x ≡ y = cc in q)
pushed-at [] x y (suc k) e = absurd (cc)
pushed-at (z ∷ xs) x y zero e = inl e
pushed-at (z ∷ xs) x y (suc k) e = elim (pushed-at xs x y k e) [
  | inl h ↦ inl h
  | inr h ↦ inr (let l : suc k ≡ length (z ∷ xs) = omega (arith, h.0) in l, h.1)
]

-- one table further
pub pushed_on : {A : Type 0} (P : ℕ → A → Type 0) (i : ℕ) (x : A) (old new : List A) → new ≡ old ++ x ∷ [] → i ≡ length old → P i x → ((k : ℕ) (y : A) → slice_get old k ≡ Some y → P k y) → (k : ℕ) (y : A) → slice_get new k ≡ Some y → P k y
pushed_on {A} P i x old new n l p h k y e = elim (pushed-at old x y k (ap (λ (r : List A). slice_get r k) (sym n) ∙ e)) [
  | inl there ↦ h k y there
  | inr here ↦
      let Q : A → Type 0 = λ z. P k z in
      let R : ℕ → Type 0 = λ j. P j x in
      subst Q here.1 (subst R (l ∙ sym here.0) p)
]

pub pushed_size : {A : Type 0} (i : ℕ) (x : A) (old new : List A) → new ≡ old ++ x ∷ [] → i ≡ length old → i + 1 ≡ length new
pushed_size {A} i x old new n l =
    let s : length new ≡ length old + 1 = ap (λ (r : List A). length r) n ∙ length-append old (x ∷ []) in
    omega (arith, s, l)
