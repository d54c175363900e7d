-- The types of a context, as a set and by the numbers of its variables.
use Rattle.std.proofs.Common.{◌≡◌, ℕ, zero, suc, true, ◌==◌, inl, inr, List, [], ◌∷◌, ◌++◌, slice_get, Some, refl, sym, ap, ◌∙◌, append_assoc, append-nil}
use Rattle.std.proofs.lemmas.Bool.{or_cases, or_left, or_right, false≢true, eq-eqb, eqb-true}
use Rattle.terms.specs.Typing.{joined}
use Rattle.succinct.specs.Sets.{has, put, joined_with, types_bound}
use Rattle.succinct.proofs.Rising.{has-joined_with}

joined-append : (ctx : List (List ℕ)) (ps : List ℕ) → joined (ctx ++ ps ∷ []) ≡ joined ctx ++ ps
unfolding joined
joined-append [] ps = append-nil ps
joined-append (row ∷ ctx) ps = ap (λ l. row ++ l) (joined-append ctx ps) ∙ sym (append_assoc row (joined ctx) ps)

pub joined_with-append : (set xs ys : List ℕ) → joined_with set (xs ++ ys) ≡ joined_with (joined_with set xs) ys
joined_with-append set [] ys = refl
joined_with-append set (x ∷ xs) ys = joined_with-append (put x set) xs ys

pub set_of-more : (ctx : List (List ℕ)) (ps : List ℕ) → types_bound (ctx ++ ps ∷ []) ≡ joined_with (types_bound ctx) ps
set_of-more ctx ps = ap (joined_with []) (joined-append ctx ps) ∙ joined_with-append [] (joined ctx) ps

-- what stands at a place of a list is in it, and what is in it stands at a place
has-get : (xs : List ℕ) (n a : ℕ) → slice_get xs n ≡ Some a → has a xs ≡ true
has-get [] n a h = cc
has-get (x ∷ xs) zero a h = let e : a ≡ x = cc in or_left (a == x) (has a xs) (eq-eqb a x e)
has-get (x ∷ xs) (suc n) a h = or_right (a == x) (has a xs) (has-get xs n a h)

pub get-has : (xs : List ℕ) (a : ℕ) → has a xs ≡ true → (n : ℕ) × (slice_get xs n ≡ Some a)
get-has [] a h = absurd (false≢true h)
get-has (x ∷ xs) a h = elim (or_cases (a == x) (has a xs) h) [
  | inl here ↦ (zero, ap (λ y. Some y) (sym (eqb-true a x here)))
  | inr later ↦ (let r = get-has xs a later in (suc r.0, r.1))
]

pub has_context : (ctx : List (List ℕ)) (n a : ℕ) → slice_get (joined ctx) n ≡ Some a → has a (types_bound ctx) ≡ true
has_context ctx n a h = has-joined_with a [] (joined ctx) ∙ has-get (joined ctx) n a h

pub at_context : (ctx : List (List ℕ)) (a : ℕ) → has a (types_bound ctx) ≡ true → (n : ℕ) × (slice_get (joined ctx) n ≡ Some a)
at_context ctx a h = get-has (joined ctx) a (sym (has-joined_with a [] (joined ctx)) ∙ h)
