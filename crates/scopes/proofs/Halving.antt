-- The number of a type among types that rise.
use Rattle.std.proofs.Common.{◌≡◌, ◌∙◌, ap, sym, subst, refl, arith, ℕ, zero, suc, ◌+◌, ◌<◌, ◌≤◌, if◌then◌else◌, List, [], ◌∷◌, length, take, drop, get_or, zero-add, length-drop, Ordering, Less, Equal, Greater}
use Rattle.std.specs.List.{AllByRecursion}
use Rattle.std.specs.Ordering.{nat_cmp, is_eq}
use Rattle.std.specs.Cmp.Lexicographic.{slice_cmp}
use Rattle.std.proofs.lemmas.Map.Text.{is_eq-slice_cmp}
use Rattle.type_names.specs.declared.kinds.Erased.{Erased}
use Rattle.type_names.specs.Descriptors.{field}
use Rattle.offers.specs.Scenes.{same_type}
use Rattle.offers.specs.Sorting.{Rises}
use Rattle.offers.specs.Types.{place_in}
use Rattle.offers.proofs.Searches.{IsPast, IsAhead, past-to}

same-by : (t u : Erased) (o : Ordering) → slice_cmp nat_cmp (field t) (field u) ≡ o → same_type t u ≡ is_eq o
same-by t u o e = sym (is_eq-slice_cmp (field t) (field u)) ∙ ap is_eq e

number-cons : (t u : Erased) (us : List Erased) → place_in (u ∷ us) t ≡ (if same_type t u then 0 else suc (place_in us t))
unfolding place_in
number-cons t u us = refl

number-nil : (t : Erased) → place_in [] t ≡ 0
unfolding place_in
number-nil t = refl

-- A type that stands behind the first i.
past : (ts : List Erased) (i : ℕ) (t : Erased) → i ≤ length ts → AllByRecursion (IsPast field (field t)) (take i ts) → place_in ts t ≡ i + place_in (drop i ts) t
past ts zero t l a = sym (zero-add (place_in ts t))
past [] (suc i) t l a = absurd (omega (arith, l))
past (u ∷ us) (suc i) t l a =
    let n : place_in (u ∷ us) t ≡ suc (place_in us t) = number-cons t u us ∙ rw (same-by t u Greater a.0) refl in
    let m : place_in us t ≡ i + place_in (drop i us) t = past us i t (omega arith) a.1 in
    omega (arith, n, m)

ahead : (ts : List Erased) (t : Erased) → AllByRecursion (IsAhead field (field t)) ts → place_in ts t ≡ length ts
ahead [] t a = number-nil t
ahead (u ∷ us) t a = number-cons t u us ∙ (rw (same-by t u Less a.0) (ap suc (ahead us t a.1)))

pub at-cons : (ts : List Erased) (i : ℕ) (y : Erased) → i < length ts → y ≡ get_or ts i y → drop i ts ≡ y ∷ drop (suc i) ts
at-cons [] i y l e = absurd (omega (arith, l))
at-cons (u ∷ us) zero y l e = ap (λ (z : Erased). z ∷ us) (sym e)
at-cons (u ∷ us) (suc i) y l e = at-cons us i y (omega arith) e

pub number-at : (ts : List Erased) (i : ℕ) (y t : Erased) → Rises field ts → i < length ts → y ≡ get_or ts i y → slice_cmp nat_cmp (field t) (field y) ≡ Equal → field y ≡ field t → i ≡ place_in ts t
number-at ts i y t r l e h k =
    let z : place_in (drop i ts) t ≡ 0 = rw (at-cons ts i y l e) (number-cons t y (drop (suc i) ts) ∙ rw (same-by t y Equal h) refl) in
    let m : place_in ts t ≡ i + place_in (drop i ts) t = past ts i t (omega arith) (past-to field ts i y (field t) r l e k) in
    omega (arith, z, m)

pub number-none : (ts : List Erased) (i j : ℕ) (t : Erased) → i ≤ j → j ≤ i → j ≤ length ts → AllByRecursion (IsPast field (field t)) (take i ts) → AllByRecursion (IsAhead field (field t)) (drop j ts) → length ts ≡ place_in ts t
number-none ts i j t l m n p a =
    let s : j ≡ i = omega arith in
    let b : AllByRecursion (IsAhead field (field t)) (drop i ts) = subst (λ k. AllByRecursion (IsAhead field (field t)) (drop k ts)) s a in
    let q : place_in ts t ≡ i + place_in (drop i ts) t = past ts i t (omega arith) p in
    let o : place_in (drop i ts) t ≡ length (drop i ts) = ahead (drop i ts) t b in
    omega (arith, q, o, length-drop i ts)
