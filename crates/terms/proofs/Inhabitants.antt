-- Inhabitants and levels.
use Rattle.std.proofs.Common.{◌≡◌, ◌≢◌, ℕ, ◌≤◌, Bool, true, false, ◌&&◌, ◌==◌, nat_le, [], None, refl, arith}
use Rattle.std.proofs.lemmas.Bool.{and_parts, le-leb, leb-true, eqb-true, and_right}
use Rattle.terms.specs.Expr.{Expr}
use Rattle.terms.specs.Typing.{type_in, some_below}
use Rattle.terms.specs.Place.{fits_place, weigh, goal_place, shallow, total_of, IsInhabitant}
use Rattle.terms.specs.Listing.{level_of}
use Rattle.terms.specs.declared.parts.Parts.{Parts}
use Rattle.terms.proofs.Codes.{below_some}

-- an inhabitant has a type
pub inhabitant-typed : (g : Parts) (e : Expr) → IsInhabitant g e → type_in g [] e ≢ None
unfolding fits_place
inhabitant-typed g e i =
    let place = (and_parts (fits_place g (goal_place g) e) (nat_le (total_of g e) g.limit) i).0 in
    below_some g (type_in g [] e) g.goal (and_parts (some_below g (type_in g [] e) g.goal) (shallow g.depth e) place).0

-- it is within the limit
pub inhabitant-within : (g : Parts) (e : Expr) → IsInhabitant g e → total_of g e ≤ g.limit
inhabitant-within g e i = leb-true (total_of g e) g.limit (and_parts (fits_place g (goal_place g) e) (nat_le (total_of g e) g.limit) i).1

-- within the limit a level is what fits the goal's place with just this weight
pub level-within : (g : Parts) (w : ℕ) (e : Expr) → w ≤ g.limit → level_of g w e ≡ fits_place g (goal_place g) e && (weigh g (goal_place g) e == w)
level-within g w e within = go (fits_place g (goal_place g) e) (weigh g (goal_place g) e == w) refl
  where
    go : (f k : Bool) → (weigh g (goal_place g) e == w) ≡ k → (f && nat_le (weigh g (goal_place g) e) g.limit) && k ≡ f && k
    go false k is = refl
    go true false is = and_right (nat_le (weigh g (goal_place g) e) g.limit) false refl
    go true true is = let same = eqb-true (weigh g (goal_place g) e) w is in rw (le-leb (weigh g (goal_place g) e) g.limit (omega (arith, same, within))) refl

-- what doesn't fit with just this weight is in no level of it
pub level-none : (g : Parts) (w : ℕ) (e : Expr) → fits_place g (goal_place g) e && (weigh g (goal_place g) e == w) ≡ false → level_of g w e ≡ false
level-none g w e none = go (fits_place g (goal_place g) e) (nat_le (weigh g (goal_place g) e) g.limit) (weigh g (goal_place g) e == w) none
  where
    go : (f l k : Bool) → f && k ≡ false → (f && l) && k ≡ false
    go false l k h = refl
    go true true k h = h
    go true false k h = refl
