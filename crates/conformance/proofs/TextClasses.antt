-- A sum over a list with one item more.
use Rattle.java_units.specs.Dimensions.{total}
use Rattle.std.proofs.Common.{◌≡◌, ◌∙◌, ap, arith, ℕ, List, [], ◌∷◌, ◌++◌}

more : {A : Type 0} (f : A → ℕ) (xs : List A) (x : A) → f x ≡ 0 → total f xs ≡ 0 → total f (xs ++ x ∷ []) ≡ 0
more f [] x h t = omega (arith, h)
more f (y ∷ ys) x h t =
    let a : total f ys ≡ 0 = omega (arith, t) in
    let b : total f (ys ++ x ∷ []) ≡ 0 = more f ys x h a in
    omega (arith, t, b)

pub total_more : {A : Type 0} (f : A → ℕ) (xs ys : List A) (x : A) → ys ≡ xs ++ x ∷ [] → f x ≡ 0 → total f xs ≡ 0 → total f ys ≡ 0
total_more f xs ys x e h t = ap (total f) e ∙ more f xs x h t
