-- When the order of source texts plays no part.
use Rattle.std.specs.Prelude.{◌≡◌, ℕ, List, [], ◌∷◌, ◌++◌}
use Rattle.std.specs.List.{flat_map}
use Rattle.std.specs.List.Sorted.{IsPermutation}
use Rattle.java_units.specs.declared.types.Unit as unit
use Rattle.known_classes.specs.Known.{class_named, HasEachOnce}
use Rattle.known_classes.specs.declared.summary.ClassSummary.{ClassSummary}
use Rattle.decl_index.specs.declared.change.Change.{Change}
use Rattle.decl_index.specs.declared.change.Change.TheVariants.{Publish}
use Rattle.decl_index.specs.History.{State, IsState}
use Rattle.source_classes.specs.TextUnits.{AreUnitsOf}
use Rattle.source_classes.specs.SourceClasses.{outlines_of, AreSourceClasses}
use Rattle.source_classes.specs.KnownNames.{ArePuts}

-- The classes of these texts all have different names.
pub record HaveOwnNames (texts : List (List ℕ)) : Type 0 where
  pub units : List unit.Unit
  pub read : AreUnitsOf texts units
  pub once : HasEachOnce (flat_map outlines_of units)

-- The texts in another order give the same class under each name.
abbrev pub AreAlikeInAnyOrder : List (List ℕ) → List ClassSummary → List ClassSummary → Type 0
AreAlikeInAnyOrder texts known classes = (others : List (List ℕ)) (again : List ClassSummary) → IsPermutation texts others → AreSourceClasses others known again → (name : List ℕ) → class_named again name ≡ class_named classes name

-- Texts whose classes all have different names give the same class under each name, in whatever order they come.
abbrev pub OrderPlaysNoPart : Type 0
OrderPlaysNoPart = (texts : List (List ℕ)) (known classes : List ClassSummary) → HaveOwnNames texts → HasEachOnce known → AreSourceClasses texts known classes → AreAlikeInAnyOrder texts known classes

-- The publication of these classes leaves the state that it leaves with its texts in another order, after whatever changes.
abbrev pub LeaveOneState : List ClassSummary → List (List ℕ) → List (List ℕ) → List ClassSummary → Type 0
LeaveOneState puts names texts all = (others : List (List ℕ)) (again : List ClassSummary) → IsPermutation texts others → ArePuts puts names others again
    → (history : List Change) (removes : List (List ℕ)) (counts : List (List ℕ × ℕ)) (state other : State)
    → IsState (history ++ Publish all removes counts ∷ []) state → IsState (history ++ Publish again removes counts ∷ []) other → other ≡ state
