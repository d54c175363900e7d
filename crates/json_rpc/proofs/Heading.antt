-- A header part is put together in a buffer.
use Rattle.std.proofs.Common.{◌≡◌, ℕ, ◌+◌, ◌<◌, ap, sym, ◌∙◌, arith, List, [], ◌∷◌, ◌++◌, take, length, get_or, set, append_assoc}
use Rattle.std.proofs.lemmas.List.{take_more, take_more_set}

-- one byte more is put
pub put-more : (xs ys bs : List ℕ) (place i : ℕ) → place + i < length ys → i < length bs → take (place + i) ys ≡ take place xs ++ take i bs → take (place + (i + 1)) (set ys (place + i) (get_or bs i 0)) ≡ take place xs ++ take (i + 1) bs
put-more xs ys bs place i l m e =
    let n : place + (i + 1) ≡ place + i + 1 = omega arith in
    ap (λ v. take v (set ys (place + i) (get_or bs i 0))) n ∙ take_more_set ys (place + i) (get_or bs i 0) l ∙ ap (λ v. v ++ (get_or bs i 0 ∷ [])) e
    ∙ append_assoc (take place xs) (take i bs) (get_or bs i 0 ∷ []) ∙ ap (λ v. take place xs ++ v) (sym (take_more bs i 0 m))

pub ruleset heading = (put-more)
