-- Types that are told apart: each stands first at its own number.
use Rattle.std.proofs.Common.{◌≡◌, ◌∙◌, sym, ap, subst, ℕ, suc, zero, ◌+◌, ◌<◌, ◌≤◌, List, [], ◌∷◌, ◌++◌, length, map, get_or, arith, refl, Bool, true, false, ◌&&◌, if◌then◌else◌, Option, Some, None, append_assoc, length-append}
use Rattle.std.specs.Prelude.{option_map, bytes_eq, is_some, unwrap_or}
use Rattle.std.specs.List.{flat_map, list_all}
use Rattle.std.proofs.Math.Seq.{get_or-append_seam}
use Rattle.name_places.specs.Places.{place_of}
use Rattle.sheets.specs.Words.{has, index_of}
use Rattle.sheets.specs.Writing.{name_of}
use Rattle.sheets.proofs.Indices.{place-more}

-- each text has its first place at its own number
abbrev pub AreApart : List (List ℕ) → Type 0
AreApart ts = (i : ℕ) → i < length ts → place_of ts (name_of ts i) ≡ Some i

pub has-name : (ts : List (List ℕ)) (i : ℕ) → AreApart ts → i < length ts → has ts (name_of ts i) ≡ true
has-name ts i apart l = ap is_some (apart i l)

pub index-name : (ts : List (List ℕ)) (i : ℕ) → AreApart ts → i < length ts → index_of ts (name_of ts i) ≡ i
index-name ts i apart l = ap (λ p. unwrap_or p 0) (apart i l)

-- a place is within the list
one-more : (n : ℕ) (b : Bool) (p : Option ℕ) (i : ℕ) → ((j : ℕ) → p ≡ Some j → j < n) → (if b then Some 0 else option_map suc p) ≡ Some i → i < suc n
one-more n true p zero f e = omega arith
one-more n true p (suc i) f e = absurd cc
one-more n false None i f e = absurd cc
one-more n false (Some j) i f e =
    let at : suc j ≡ i = cc in
    let l = f j refl in
    omega (arith, at, l)

pub place-within : (ts : List (List ℕ)) (t : List ℕ) (i : ℕ) → place_of ts t ≡ Some i → i < length ts
unfolding place_of
place-within [] t i e = absurd cc
place-within (x ∷ ts) t i e = one-more (length ts) (bytes_eq x t) (place_of ts t) i (λ j k. place-within ts t j k) e

some-of : (p : Option ℕ) (n : ℕ) → ((i : ℕ) → p ≡ Some i → i < n) → (is_some p ≡ true → p ≡ Some n) → is_some p ≡ false
some-of None n f g = refl
some-of (Some i) n f g =
    let l : i < n = f i refl in
    let e : Some i ≡ Some n = g refl in
    let at : i ≡ n = cc in
    absurd (omega (arith, l, at))

-- a text that comes later isn't there yet
pub not-yet : (done : List (List ℕ)) (t : List ℕ) (todo : List (List ℕ)) → AreApart (done ++ t ∷ todo) → has done t ≡ false
not-yet done t todo apart =
    let within : length done < length (done ++ t ∷ todo) = omega (arith, length-append done (t ∷ todo)) in
    let P : List ℕ → Type 0 = λ x. place_of (done ++ t ∷ todo) x ≡ Some (length done) in
    let at : place_of (done ++ t ∷ todo) t ≡ Some (length done) = subst P (get_or-append_seam done t todo []) (apart (length done) within) in
    some-of (place_of done t) (length done) (λ i e. place-within done t i e) (λ h. sym (place-more done (t ∷ todo) t h) ∙ at)
