-- Floors: for states of a search numbers below which no term weighs there, as a closure condition on a list.
use Rattle.std.specs.Prelude.{◌≡◌, ◌⊎◌, ◌≤◌, ℕ, zero, suc, ◌+◌, Bool, true, false, ◌&&◌, ◌==◌, if◌then◌else◌, List, [], ◌∷◌, length, leb, slice_get, bytes_eq, Some}
use Rattle.std.specs.List.Sorted.{IsStrictlyIncreasing}
use Rattle.terms.specs.Table.{has}
use Rattle.terms.specs.Typing.{is_below}
use Rattle.terms.specs.Weights.{variable_weight, binders_weight, step_in}
use Rattle.terms.specs.declared.parts.Parts.{Parts}
use Rattle.terms.specs.declared.parts.Decl.{Decl}
use Rattle.terms.specs.declared.parts.Arg.{Arg}
use Rattle.terms.specs.declared.parts.Arg.TheVariants.{Plain, Fun}
use Rattle.checker.specs.declared.floor.Floor.{Floor}

-- the set with one more type, in rising order
unfoldable pub with_type : ℕ → List ℕ → List ℕ
with_type a [] = a ∷ []
with_type a (b ∷ set) = if a == b then b ∷ set else (if leb a b then a ∷ b ∷ set else b ∷ with_type a set)

-- the set with these types
unfoldable pub with_types : List ℕ → List ℕ → List ℕ
with_types [] set = set
with_types (a ∷ more) set = with_types more (with_type a set)

-- whether the floor is one of this state
abbrev pub is_at : List ℕ → ℕ → ℕ → Floor → Bool
is_at set left b f = bytes_eq f.set set && ((f.left == left) && (f.goal == b))

-- the floor of a state: the one listed for it, 0 where none is
unfoldable pub floor_of : List Floor → List ℕ → ℕ → ℕ → ℕ
floor_of [] set left b = 0
floor_of (f ∷ fs) set left b = if is_at set left b f then f.floor else floor_of fs set left b

-- more than any inhabitant weighs
abbrev pub top : Parts → ℕ
top g = suc g.limit

-- what an argument weighs at least; a lambda can't stand where none is left, and its body stands over the set with
-- its parameters
abbrev pub lambda_floor : Parts → List Floor → List ℕ → ℕ → List ℕ → ℕ → ℕ
lambda_floor g fs set zero ps r = top g
lambda_floor g fs set (suc left) ps r = binders_weight g (length ps) + floor_of fs (with_types ps set) left r

abbrev pub arg_floor : Parts → List Floor → List ℕ → ℕ → Arg → ℕ
arg_floor g fs set left (Plain t) = floor_of fs set left t
arg_floor g fs set left (Fun ps r) = lambda_floor g fs set left ps r

abbrev pub args_floor : Parts → List Floor → List ℕ → ℕ → List Arg → ℕ
args_floor g fs set left [] = 0
args_floor g fs set left (a ∷ more) = arg_floor g fs set left a + args_floor g fs set left more

-- the sum reaches the floor, or more than any inhabitant weighs
abbrev pub Reaches : Parts → ℕ → ℕ → Type 0
Reaches g floor sum = (floor ≤ sum) ⊎ (top g ≤ sum)

-- a listed floor: no variable of the set and no head weighs less there
pub record IsFloor (g : Parts) (fs : List Floor) (f : Floor) : Type 0 where
  pub rising : IsStrictlyIncreasing f.set
  pub within : f.floor ≤ top g
  pub variables : (a : ℕ) → has a f.set ≡ true → is_below g a f.goal ≡ true → Reaches g f.floor (variable_weight g + step_in g (Some a) f.goal)
  pub heads : (i : ℕ) (d : Decl) → slice_get g.decls i ≡ Some d → is_below g d.result f.goal ≡ true → Reaches g f.floor (d.weight + step_in g (Some d.result) f.goal + args_floor g fs f.set f.left d.args)

-- the first floor is w, at the goal's state
abbrev pub IsFirst : Parts → List Floor → ℕ → Type 0
IsFirst g [] w = ⊥
IsFirst g (f ∷ fs) w = (f.set ≡ []) × (f.left ≡ g.depth) × (f.goal ≡ g.goal) × (f.floor ≡ w)

-- whether a floor of the same state stands in the list
unfoldable pub is_among : Floor → List Floor → Bool
is_among f [] = false
is_among f (h ∷ fs) = if is_at f.set f.left f.goal h then true else is_among f fs

-- whether no two floors are of one state
unfoldable pub are_apart : List Floor → Bool
are_apart [] = true
are_apart (f ∷ fs) = if is_among f fs then false else are_apart fs

-- the floors hold, the first one being w
pub record FloorsHold (g : Parts) (fs : List Floor) (w : ℕ) : Type 0 where
  pub first : IsFirst g fs w
  pub apart : are_apart fs ≡ true
  pub each : (i : ℕ) (f : Floor) → slice_get fs i ≡ Some f → IsFloor g fs f
