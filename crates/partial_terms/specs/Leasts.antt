-- Least weights of the places that a search meets. A number above the limit says that there is no term within it.
use Rattle.std.specs.Prelude.{◌≡◌, ℕ, ◌+◌, ◌≤◌, true, List, [], ◌∷◌, Some}
use Rattle.terms.specs.Expr.{Expr}
use Rattle.terms.specs.Count.{total}
use Rattle.terms.specs.Place.{Place, HasRoom, fits_place, weigh}
use Rattle.terms.specs.Reading.{Reading, turn}
use Rattle.terms.specs.declared.parts.Parts.{Parts}

-- a property of each of some places
abbrev pub AllPlaces : (Place → Type 0) → List Place → Type 0
AllPlaces P [] = Unit {0}
AllPlaces P (p ∷ ps) = P p × AllPlaces P ps

-- At a place that is kept no term within the limit weighs less than its number, and a number within the limit
-- is the weight of some term there. A head at a kept place opens kept places alone.
pub record AreLeast (g : Parts) (limit : ℕ) (Kept : Place → Type 0) (least : Place → ℕ) : Type 0 where
  pub room : (p : Place) → Kept p → HasRoom p
  pub opens : (p : Place) → Kept p → (n : ℕ) (t : Reading) → turn g p n ≡ Some t → AllPlaces Kept t.open_places
  pub low : (p : Place) → Kept p → (e : Expr) → fits_place g p e ≡ true → weigh g p e ≤ limit → least p ≤ weigh g p e
  pub met : (p : Place) → least p ≤ limit → (e : Expr) × (fits_place g p e ≡ true) × (weigh g p e ≡ least p)

-- the least weight of what may come of a reading, where these are least weights: its own, and those of its open places
abbrev pub key : (Place → ℕ) → Reading → ℕ
key least r = r.weight + total least r.open_places
