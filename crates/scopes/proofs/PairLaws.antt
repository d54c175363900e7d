-- The pairs of an environment are the subtype pairs among its types.
use Rattle.std.proofs.Common.{◌≡◌, ◌∙◌, ap, sym, refl, ℕ, suc, Bool, true, false, ◌||◌, cond, List, [], ◌∷◌, get_or, Option, Some, None}
use Rattle.std.specs.List.{list_any}
use Rattle.std.proofs.lemmas.Slice.Eq.{bytes_eq-Decides}
use Rattle.type_names.specs.declared.kinds.Erased.{Erased}
use Rattle.type_names.specs.Descriptors.{field}
use Rattle.terms.specs.Typing.{is_pair}
use Rattle.offers.specs.Scenes.{Scene}
use Rattle.offers.specs.Candidates.{same_outcome}
use Rattle.offers.specs.Pairs.{pairs_of}
use Rattle.offers.proofs.Descriptors.{field-one}
use Rattle.scopes.specs.Kinds.{Kinds, listed, count, place_among, number_in, is_outcome_below, is_below_in}
use Rattle.scopes.proofs.Numbered.{Has, Among, type-among, number-below}
use Rattle.scopes.proofs.OrderPairs.{rows_known, rows_there}

pub outcome-one : (a b : Option Erased) → same_outcome a b ≡ true → a ≡ b
outcome-one None None e = refl
outcome-one None (Some b) e = absurd (let h = e in cc)
outcome-one (Some a) None e = absurd (let h = e in cc)
outcome-one (Some a) (Some b) e = ap Some (field-one a b ((bytes_eq-Decides (field a) (field b)).0 e))

-- the type of a number
at-by : (b : Bool) (k u : Option Erased) (us : List (Option Erased)) (n : ℕ) → same_outcome k u ≡ b → (b ≡ false → get_or us n None ≡ k) → get_or (u ∷ us) (cond b 0 (suc n)) None ≡ k
at-by true k u us n e f = sym (outcome-one k u e)
at-by false k u us n e f = f refl

other : (a b : Bool) → (a || b) ≡ true → a ≡ false → b ≡ true
other true b e f = absurd (let g = sym f in cc)
other false b e f = e

place-at : (us : List (Option Erased)) (k : Option Erased) → list_any (same_outcome k) us ≡ true → get_or us (place_among us k) None ≡ k
unfolding place_among
place-at [] k h = absurd (let e = h in cc)
place-at (u ∷ us) k h = at-by (same_outcome k u) k u us (place_among us k) refl (λ f. place-at us k (other (same_outcome k u) _ h f))

pub number-at : (ks : Kinds) (k : Option Erased) → Among ks k → get_or (listed ks) (number_in ks k) None ≡ k
unfolding Among number_in
number-at ks k h = place-at (listed ks) k h

pub type-at : (ks : Kinds) (t : Erased) → Has ks.types t → get_or (listed ks) (number_in ks (Some t)) None ≡ Some t
type-at ks t h = number-at ks (Some t) (type-among ks t h)

same-truth : (a b : Bool) → (a ≡ true → b ≡ true) → (b ≡ true → a ≡ true) → a ≡ b
same-truth true b f g = sym (f refl)
same-truth false true f g = g refl
same-truth false false f g = refl

pub pairs-are : (v : Scene) (ks : Kinds) (a b : Option Erased) → Among ks a → Among ks b → is_pair (pairs_of (count ks) (is_below_in v ks)) (number_in ks a) (number_in ks b) ≡ is_outcome_below v a b
pairs-are v ks a b h k =
    let n = count ks in
    let f = is_below_in v ks in
    same-truth (is_pair (pairs_of n f) (number_in ks a) (number_in ks b)) (f (number_in ks a) (number_in ks b))
    (λ e. (rows_known n f n (number_in ks a) (number_in ks b) e).2)
    (λ e. rows_there n f n (number_in ks a) (number_in ks b) (number-below ks a h) (number-below ks b k) e)
    ∙ ap (λ x. is_outcome_below v x (get_or (listed ks) (number_in ks b) None)) (number-at ks a h) ∙ ap (is_outcome_below v a) (number-at ks b k)
