-- The checks of a floor, as tests.
use Rattle.std.specs.Prelude.{ℕ, ◌+◌, ◌-◌, ◌==◌, if◌then◌else◌, Bool, true, false, List, [], ◌∷◌, Option, Some, None, slice_get}
use Rattle.terms.specs.declared.parts.Parts.{Parts}
use Rattle.terms.specs.declared.parts.Decl.{Decl}
use Rattle.terms.specs.Typing.{is_below}
use Rattle.terms.specs.Weights.{variable_weight, step_in}
use Rattle.checker.specs.declared.floor.Floor.{Floor}
use Rattle.checker.specs.Floors.{args_floor}

-- whether a head reaches the floor
unfoldable pub head_reaches : Parts → List Floor → Floor → Decl → Bool
head_reaches g fs f d = ((f.floor - d.weight) - step_in g (Some d.result) f.goal) - args_floor g fs f.set f.left d.args == 0

-- whether the declaration at a place does
abbrev pub found_reaches : Parts → List Floor → Floor → Option Decl → Bool
found_reaches g fs f None = true
found_reaches g fs f (Some d) = head_reaches g fs f d

-- whether those at all these places do
unfoldable pub places_reach : Parts → List Floor → Floor → List ℕ → Bool
places_reach g fs f [] = true
places_reach g fs f (i ∷ more) = if found_reaches g fs f (slice_get g.decls i) then places_reach g fs f more else false

-- whether a variable of this type reaches the floor, where it may stand there
unfoldable pub variable_reaches : Parts → Floor → ℕ → Bool
variable_reaches g f a = if is_below g a f.goal then f.floor - (variable_weight g + step_in g (Some a) f.goal) == 0 else true

-- whether all variables do
unfoldable pub variables_reach : Parts → Floor → List ℕ → Bool
variables_reach g f [] = true
variables_reach g f (a ∷ more) = if variable_reaches g f a then variables_reach g f more else false
