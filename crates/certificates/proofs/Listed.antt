-- The list of the floors of told states.
use Rattle.std.proofs.Common.{◌≡◌, ℕ, List, [], ◌∷◌, map, Option, sym, ap, subst, ◌∙◌}
use Rattle.terms.specs.Expr.{Expr}
use Rattle.terms.specs.Faults.{IsValid}
use Rattle.terms.specs.Listing.{IsWhole}
use Rattle.terms.specs.declared.parts.Parts.{Parts}
use Rattle.succinct.specs.Compression.{Compression, IsCompression}
use Rattle.patterns.specs.Patterned.{Patterned, ArePatterns, AreSought}
use Rattle.patterns.specs.States.{types_at, left_at}
use Rattle.patterns.specs.declared.state.State.{State}
use Rattle.least_weights.specs.LeastWeight.{AreLeastWeights}
use Rattle.checker.specs.Floors.{IsFirst, FloorsHold}
use Rattle.checker.specs.declared.floor.Floor.{Floor}
use Rattle.certificates.specs.Floors.{first_total, state_at, floor_at}
use Rattle.certificates.specs.Told.{number_of, AreAllTold}
use Rattle.certificates.proofs.Holding.{floors-hold}
use Rattle.certificates.proofs.FirstTotals.{first-number}

-- the first floor is one number
one-first : (g : Parts) (fs : List Floor) (v w : ℕ) → IsFirst g fs v → IsFirst g fs w → v ≡ w
one-first g [] v w first first' = absurd first
one-first g (f ∷ fs) v w first first' = sym first.3 ∙ first'.3

module _ (g : Parts) (c : Compression) (d : Patterned) (weights : List (Option ℕ)) (told : List ℕ) (list : List Floor) (valid : IsValid g) (comp : IsCompression g c) (made : ArePatterns c g.goal g.depth d) (sought : AreSought c d) (least : AreLeastWeights g d weights) (all : AreAllTold g c d weights told) (is : list ≡ map (floor_at g d weights) told) where
  pub list-holds : FloorsHold g list (number_of g weights 0)
  list-holds = subst (λ l. FloorsHold g l (number_of g weights 0)) (sym is) (floors-hold g c d valid comp made sought weights least told all)

  pub list-first : (w : ℕ) (es : List Expr) → FloorsHold g list w → IsWhole g es → w ≡ first_total g es
  list-first w es holds whole = one-first g list w (number_of g weights 0) holds.first list-holds.first ∙ first-number g c d made weights least es whole

-- a floor of its parts
abbrev made_of : List ℕ → ℕ → ℕ → ℕ → Floor
made_of set left b n = record { set = set; left = left; goal = b; floor = n }

-- the floor of a state by its parts
pub floor-is : (g : Parts) (d : Patterned) (weights : List (Option ℕ)) (i : ℕ) (s : State) (set : List ℕ) (left n : ℕ) → s ≡ state_at d i → set ≡ types_at d.space s.set → left ≡ left_at d.space s.set → n ≡ number_of g weights i → made_of set left s.goal n ≡ floor_at g d weights i
floor-is g d weights i s set left n at types room number =
    ap (λ x. made_of x left s.goal n) types
    ∙ ap (λ x. made_of (types_at d.space s.set) x s.goal n) room
    ∙ ap (λ x. made_of (types_at d.space s.set) (left_at d.space s.set) s.goal x) number
    ∙ ap (λ (x : State). made_of (types_at d.space x.set) (left_at d.space x.set) x.goal (number_of g weights i)) at
