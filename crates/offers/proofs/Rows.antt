-- Some element passes a test where one at a place of its number does.
use Rattle.std.proofs.Common.{◌≡◌, ◌∙◌, ap, refl, ℕ, zero, suc, Bool, true, false, ◌||◌, List, [], ◌∷◌, map, Some}
use Rattle.std.specs.Prelude.{slice_get}
use Rattle.std.specs.List.{list_any, Contains}
use Rattle.std.proofs.lemmas.List.Folds.{list_any_at}
use Rattle.offers.specs.Grouping.{IsRow, at_place}
use Rattle.offers.proofs.Lists.{same-test}

or-right : (a b : Bool) → b ≡ true → (a || b) ≡ true
or-right true b e = refl
or-right false b e = e

or-by : {G : Type 0} (a b : Bool) → (a || b) ≡ true → (a ≡ true → G) → (b ≡ true → G) → G
or-by true b e f g = f refl
or-by false b e f g = g e

hit : {X : Type 0} (test : X → Bool) (xs : List X) (i : ℕ) → at_place test xs i ≡ true → list_any test xs ≡ true
hit test [] i e = e
hit test (x ∷ xs) zero e = ap (λ t. t || list_any test xs) e
hit test (x ∷ xs) (suc i) e = or-right (test x) (list_any test xs) (hit test xs i e)

sound : {X : Type 0} (test : X → Bool) (xs : List X) (row : List ℕ) → list_any (at_place test xs) row ≡ true → list_any test xs ≡ true
sound test xs [] e = absurd (let h = e in cc)
sound test xs (i ∷ row) e = or-by (at_place test xs i) (list_any (at_place test xs) row) e (hit test xs i) (sound test xs row)

-- a place at which the test is passed, and the number there
record IsHit {X : Type 0} (test : X → Bool) (number : X → ℕ) (key : ℕ) (xs : List X) : Type 0 where
  place : ℕ
  passed : at_place test xs place ≡ true
  own : slice_get (map number xs) place ≡ Some key

find : {X : Type 0} (test : X → Bool) (number : X → ℕ) (key : ℕ) → ((x : X) → test x ≡ true → number x ≡ key) → (xs : List X) → list_any test xs ≡ true → IsHit test number key xs
find test number key f [] e = absurd (let h = e in cc)
find test number key f (x ∷ xs) e =
    or-by (test x) (list_any test xs) e
    (λ t. record { place = zero; passed = t; own = ap Some (f x t) })
    (λ t. let h : IsHit test number key xs = find test number key f xs t in record { place = suc h.place; passed = h.passed; own = h.own })

complete : {X : Type 0} (test : X → Bool) (number : X → ℕ) (xs : List X) (key : ℕ) (row : List ℕ) → ((x : X) → test x ≡ true → number x ≡ key) → IsRow (map number xs) key row → list_any test xs ≡ true → list_any (at_place test xs) row ≡ true
complete test number xs key row f r e =
    let h : IsHit test number key xs = find test number key f xs e in
    let c : Contains row h.place = r h.place h.own in
    list_any_at (at_place test xs) row c.0 h.place c.1 (ap (at_place test xs) c.2 ∙ h.passed)

-- only elements of one number pass the test
pub any-row : {X : Type 0} (test : X → Bool) (number : X → ℕ) (xs : List X) (key : ℕ) (row : List ℕ) → ((x : X) → test x ≡ true → number x ≡ key) → IsRow (map number xs) key row → list_any (at_place test xs) row ≡ list_any test xs
any-row test number xs key row f r = same-test (list_any (at_place test xs) row) (list_any test xs) (sound test xs row) (complete test number xs key row f r)
