-- Pairs, row by row.
use Rattle.std.proofs.Common.{◌≡◌, ◌∙◌, ap, sym, refl, arith, ℕ, suc, ◌+◌, Bool, cond, List, [], ◌∷◌, ◌++◌, append_assoc}
use Rattle.std.proofs.lemmas.List.{append-nil}
use Rattle.offers.specs.Pairs.{row_of, rows_of}

row-zero : (below : ℕ → ℕ → Bool) (a : ℕ) → row_of below a 0 ≡ []
unfolding row_of
row-zero below a = refl

row-suc : (below : ℕ → ℕ → Bool) (a n : ℕ) → row_of below a (suc n) ≡ row_of below a n ++ cond (below a n) ((a, n) ∷ []) []
unfolding row_of
row-suc below a n = refl

pub row-start : (below : ℕ → ℕ → Bool) (a : ℕ) (pairs : List (ℕ × ℕ)) → pairs ≡ pairs ++ row_of below a 0
row-start below a pairs = sym (ap (λ (z : List (ℕ × ℕ)). pairs ++ z) (row-zero below a) ∙ append-nil pairs)

pub row-on : (below : ℕ → ℕ → Bool) (a n : ℕ) (init pairs new : List (ℕ × ℕ)) → pairs ≡ init ++ row_of below a n → new ≡ pairs ++ cond (below a n) ((a, n) ∷ []) [] → new ≡ init ++ row_of below a (n + 1)
row-on below a n init pairs new h e =
    let s : suc n ≡ n + 1 = omega arith in
    e ∙ ap (λ (z : List (ℕ × ℕ)). z ++ cond (below a n) ((a, n) ∷ []) []) h
    ∙ append_assoc init (row_of below a n) (cond (below a n) ((a, n) ∷ []) [])
    ∙ ap (λ (z : List (ℕ × ℕ)). init ++ z) (sym (row-suc below a n) ∙ ap (row_of below a) s)

rows-zero : (n : ℕ) (below : ℕ → ℕ → Bool) → rows_of n below 0 ≡ []
unfolding rows_of
rows-zero n below = refl

rows-suc : (n : ℕ) (below : ℕ → ℕ → Bool) (m : ℕ) → rows_of n below (suc m) ≡ rows_of n below m ++ row_of below m n
unfolding rows_of
rows-suc n below m = refl

pub rows-start : (n : ℕ) (below : ℕ → ℕ → Bool) (pairs : List (ℕ × ℕ)) → pairs ≡ [] → pairs ≡ rows_of n below 0
rows-start n below pairs e = e ∙ sym (rows-zero n below)

pub rows-on : (n : ℕ) (below : ℕ → ℕ → Bool) (m : ℕ) (pairs new : List (ℕ × ℕ)) → pairs ≡ rows_of n below m → new ≡ pairs ++ row_of below m n → new ≡ rows_of n below (m + 1)
rows-on n below m pairs new h e =
    let s : suc m ≡ m + 1 = omega arith in
    e ∙ ap (λ (z : List (ℕ × ℕ)). z ++ row_of below m n) h ∙ sym (rows-suc n below m) ∙ ap (rows_of n below) s
