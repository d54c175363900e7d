-- A spelling that is kept is that of the class of its name.
use Rattle.std.proofs.Common.{◌≡◌, ◌∙◌, ap, arith, ℕ, zero, suc, ◌<◌, List, [], ◌∷◌, length, map, get_or, Option, Some}
use Rattle.std.specs.Prelude.{slice_get}
use Rattle.name_places.specs.Places.{place_of}
use Rattle.name_places.proofs.Places.{place-get}

at-place : {B : Type 0} (f : List ℕ → B) (xs : List (List ℕ)) (i : ℕ) (x : List ℕ) → i < length xs → get_or xs i [] ≡ x → slice_get (map f xs) i ≡ Some (f x)
at-place f [] i x l e = absurd (omega (arith, l))
at-place f (y ∷ ys) zero x l e = ap (λ z. Some (f z)) e
at-place f (y ∷ ys) (suc i) x l e = at-place f ys i x (omega arith) e

pub kept-at : {B : Type 0} (f : List ℕ → B) (names : List (List ℕ)) (texts items : List B) (name : List ℕ) (place : ℕ) (got : Option B) → texts ≡ map f names → place_of names name ≡ Some place → items ≡ texts → got ≡ slice_get items place → got ≡ Some (f name)
kept-at {B} f names texts items name place got h p q g =
    let w = place-get names name place p in
    g ∙ ap (λ (z : List B). slice_get z place) (q ∙ h) ∙ at-place f names place name w.0 w.1
