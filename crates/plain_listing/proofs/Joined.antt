-- The variables of a context, row by row.
use Rattle.std.proofs.Common.{◌≡◌, ℕ, ◌+◌, ◌<◌, ◌≤◌, List, [], ◌∷◌, ◌++◌, length, drop, get_or, refl, sym, ap, ◌∙◌, append_assoc, append-nil}
use Rattle.std.proofs.lemmas.List.{drop_more, drop_all}
use Rattle.terms.specs.Typing.{joined}

joined-cons : (row : List ℕ) (more : List (List ℕ)) → joined (row ∷ more) ≡ row ++ joined more
unfolding joined
joined-cons row more = refl

joined-nil : joined [] ≡ []
unfolding joined
joined-nil = refl

-- one row more
pub joined-next : (ctx : List (List ℕ)) (all old new row : List ℕ) (i : ℕ) → i < length ctx → row ≡ get_or ctx i row → all ≡ old ++ joined (drop i ctx) → new ≡ old ++ row → all ≡ new ++ joined (drop (i + 1) ctx)
joined-next ctx all old new row i low is before more =
    before ∙ ap (λ c. old ++ joined c) (drop_more ctx i row low ∙ ap (λ r. r ∷ drop (i + 1) ctx) (sym is)) ∙ ap (λ t. old ++ t) (joined-cons row (drop (i + 1) ctx))
    ∙ sym (append_assoc old row (joined (drop (i + 1) ctx))) ∙ ap (λ t. t ++ joined (drop (i + 1) ctx)) (sym more)

-- no row is left
pub joined-end : (ctx : List (List ℕ)) (all now : List ℕ) (i : ℕ) → length ctx ≤ i → all ≡ now ++ joined (drop i ctx) → now ≡ all
joined-end ctx all now i past before = sym (before ∙ ap (λ c. now ++ joined c) (drop_all i ctx past) ∙ ap (λ t. now ++ t) joined-nil ∙ append-nil now)
