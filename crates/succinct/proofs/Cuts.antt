-- Rows in one list: one more at the end, and where each of them lies.
use Rattle.std.proofs.Common.{◌≡◌, ℕ, zero, suc, ◌+◌, ◌-◌, ◌<◌, ◌≤◌, List, [], ◌∷◌, ◌++◌, length, take, drop, get_or, slice_get, Some, refl, sym, ap, ◌∙◌, arith, length-append}
use Rattle.std.specs.List.{slice_range}
use Rattle.std.proofs.lemmas.List.{take-append-le, drop-append-le, length-drop}
use Rattle.std.proofs.Math.Seq.{drop-append_seam, take-length}
use Rattle.succinct.specs.Rows.{rows_from, AreCuts}

-- no row ends behind the list
pub cut-within : (from : ℕ) (ends flat : List ℕ) → AreCuts from ends flat → from ≤ length flat
cut-within from [] flat cuts = (let e : from ≡ length flat = cuts in omega (arith, e))
cut-within from (end ∷ ends) flat cuts = (let l = cut-within end ends flat cuts.1 in let low = cuts.0 in omega (arith, l, low))

-- what lies within a list lies there when it grows
kept : (flat row : List ℕ) (a b : ℕ) → a ≤ b → b ≤ length flat → slice_range (flat ++ row) a b ≡ slice_range flat a b
kept flat row a b low high =
    let l = length-drop a flat in
    ap (take (b - a)) (drop-append-le a flat row (omega (arith, low, high))) ∙ take-append-le (b - a) (drop a flat) row (omega (arith, low, high, l))

pub cuts-more : (from : ℕ) (ends flat row : List ℕ) → AreCuts from ends flat → AreCuts from (ends ++ (length flat + length row) ∷ []) (flat ++ row)
cuts-more from [] flat row cuts = (let e : from ≡ length flat = cuts in omega (arith, e), sym (length-append flat row))
cuts-more from (end ∷ ends) flat row cuts = (cuts.0, cuts-more end ends flat row cuts.1)

pub rows-more : (from : ℕ) (ends flat row : List ℕ) → AreCuts from ends flat → rows_from from (ends ++ (length flat + length row) ∷ []) (flat ++ row) ≡ rows_from from ends flat ++ row ∷ []
rows-more from [] flat row cuts =
    let e : from ≡ length flat = cuts in
    let n : length flat + length row - length flat ≡ length row = omega arith in
    ap (λ r. r ∷ []) (ap (λ a. slice_range (flat ++ row) a (length flat + length row)) e ∙ ap (take (length flat + length row - length flat)) (drop-append_seam flat row) ∙ ap (λ k. take k row) n ∙ take-length row)
rows-more from (end ∷ ends) flat row cuts =
    ap (λ r. r ∷ rows_from end (ends ++ (length flat + length row) ∷ []) (flat ++ row)) (kept flat row from end cuts.0 (cut-within end ends flat cuts.1))
    ∙ ap (λ rs. slice_range flat from end ∷ rs) (rows-more end ends flat row cuts.1)

pub length-rows : (from : ℕ) (ends flat : List ℕ) → length (rows_from from ends flat) ≡ length ends
length-rows from [] flat = refl
length-rows from (end ∷ ends) flat = ap (λ n. suc n) (length-rows end ends flat)

pub row-at : (from : ℕ) (ends flat : List ℕ) (k : ℕ) → k < length ends → get_or (rows_from from ends flat) k [] ≡ slice_range flat (get_or (from ∷ ends) k 0) (get_or ends k 0)
row-at from [] flat k low = absurd (omega (arith, low))
row-at from (end ∷ ends) flat zero low = refl
row-at from (end ∷ ends) flat (suc k) low = row-at end ends flat k (omega (arith, low))

-- a row's start and end
pub cut-low : (from : ℕ) (ends flat : List ℕ) (k : ℕ) → AreCuts from ends flat → k < length ends → get_or (from ∷ ends) k 0 ≤ get_or ends k 0
cut-low from [] flat k cuts low = absurd (omega (arith, low))
cut-low from (end ∷ ends) flat zero cuts low = cuts.0
cut-low from (end ∷ ends) flat (suc k) cuts low = cut-low end ends flat k cuts.1 (omega (arith, low))

pub cut-high : (from : ℕ) (ends flat : List ℕ) (k : ℕ) → AreCuts from ends flat → k < length ends → get_or ends k 0 ≤ length flat
cut-high from [] flat k cuts low = absurd (omega (arith, low))
cut-high from (end ∷ ends) flat zero cuts low = cut-within end ends flat cuts.1
cut-high from (end ∷ ends) flat (suc k) cuts low = cut-high end ends flat k cuts.1 (omega (arith, low))
