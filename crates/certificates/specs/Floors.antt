-- The floors of states at their least weights.
use Rattle.std.specs.Prelude.{◌≡◌, ℕ, List, [], ◌∷◌, map, Option, slice_index_or}
use Rattle.terms.specs.Expr.{Expr}
use Rattle.terms.specs.Faults.{IsValid}
use Rattle.terms.specs.Listing.{IsWhole}
use Rattle.terms.specs.Place.{total_of}
use Rattle.terms.specs.declared.parts.Parts.{Parts}
use Rattle.succinct.specs.Compression.{Compression, IsCompression}
use Rattle.patterns.specs.Patterned.{Patterned, ArePatterns, AreSought}
use Rattle.patterns.specs.States.{types_at, left_at}
use Rattle.patterns.specs.declared.state.State.{State}
use Rattle.least_weights.specs.LeastWeight.{AreLeastWeights}
use Rattle.checker.specs.Floors.{top, FloorsHold}
use Rattle.checker.specs.declared.floor.Floor.{Floor}
use Rattle.certificates.specs.Told.{number_of, AreAllTold}

-- the total of the list's first term, and more than any inhabitant weighs where there is none
abbrev pub first_total : Parts → List Expr → ℕ
first_total g [] = top g
first_total g (e ∷ es) = total_of g e

-- the state of a number
abbrev pub state_at : Patterned → ℕ → State
state_at d i = slice_index_or d.states i (record { set = 0; goal = 0 })

-- the floor of a state with this number
abbrev pub floor_with : Patterned → State → ℕ → Floor
floor_with d s n = record { set = types_at d.space s.set; left = left_at d.space s.set; goal = s.goal; floor = n }

abbrev pub floor_at : Parts → Patterned → List (Option ℕ) → ℕ → Floor
floor_at g d weights i = floor_with d (state_at d i) (number_of g weights i)

-- floors at the least weights hold, where all that they rest on is told
abbrev pub LeastFloorsHold : Type 0
LeastFloorsHold = (g : Parts) (c : Compression) (d : Patterned) (weights : List (Option ℕ)) (told : List ℕ) → IsValid g → IsCompression g c → ArePatterns c g.goal g.depth d → AreSought c d → AreLeastWeights g d weights → AreAllTold g c d weights told → FloorsHold g (map (floor_at g d weights) told) (number_of g weights 0)

-- the number of the goal's state is the first total
abbrev pub FirstIsLeast : Type 0
FirstIsLeast = (g : Parts) (c : Compression) (d : Patterned) (weights : List (Option ℕ)) (es : List Expr) → ArePatterns c g.goal g.depth d → AreLeastWeights g d weights → IsWhole g es → number_of g weights 0 ≡ first_total g es
