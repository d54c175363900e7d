-- The binders of arguments, as far as a loop has come.
use Rattle.std.proofs.Common.{◌≡◌, ℕ, zero, suc, ◌+◌, ◌<◌, ◌≤◌, List, [], ◌∷◌, ◌++◌, length, take, get_or, refl, sym, ap, ◌∙◌, arith}
use Rattle.std.proofs.lemmas.List.{take_more}
use Rattle.terms.specs.Reading.{binders}
use Rattle.terms.specs.declared.parts.Arg.{Arg}
use Rattle.terms.specs.declared.parts.Arg.TheVariants.{Plain, Fun}

binders-append : (xs ys : List Arg) → binders (xs ++ ys) ≡ binders xs + binders ys
unfolding binders
binders-append [] ys = omega arith
binders-append (Plain b ∷ xs) ys = binders-append xs ys
binders-append (Fun ps r ∷ xs) ys = (let h = binders-append xs ys in omega (arith, h))

pub binders-more : (xs : List Arg) (i : ℕ) (x d : Arg) → i < length xs → x ≡ get_or xs i d → binders (take (i + 1) xs) ≡ binders (take i xs) + binders (x ∷ [])
binders-more xs i x d low at = ap binders (take_more xs i d low ∙ ap (λ y. take i xs ++ y ∷ []) (sym at)) ∙ binders-append (take i xs) (x ∷ [])

pub binders-prefix : (xs : List Arg) (i : ℕ) → binders (take i xs) ≤ binders xs
unfolding binders
binders-prefix [] zero = omega arith
binders-prefix [] (suc i) = omega arith
binders-prefix (x ∷ xs) zero = omega arith
binders-prefix (Plain b ∷ xs) (suc i) = binders-prefix xs i
binders-prefix (Fun ps r ∷ xs) (suc i) = (let h = binders-prefix xs i in omega (arith, h))

pub binders-plain : (b : ℕ) → binders (Plain b ∷ []) ≡ 0
unfolding binders
binders-plain b = refl

pub binders-fun : (ps : List ℕ) (r : ℕ) → binders (Fun ps r ∷ []) ≡ length ps
unfolding binders
binders-fun ps r = omega arith

pub binders-none : binders [] ≡ 0
unfolding binders
binders-none = refl
