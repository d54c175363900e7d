-- The environments of holes.
use Rattle.std.specs.Prelude.{◌≤◌, ℕ, IsUtf8}
use Rattle.java_units.specs.declared.types.Unit as unit
use Rattle.java_bodies.specs.declared.site.HoleSite.{HoleSite}
use Rattle.known_classes.specs.Known.{HasEachOnce}
use Rattle.decl_index.specs.History.{State}
use Rattle.decl_index.specs.Weighing.{AreWeights}
use Rattle.terms.specs.declared.parts.Parts.{Parts}
use Rattle.terms.specs.Faults.{greatest_depth}
use Rattle.scopes.specs.Holes.{IsHoleIn}
use Rattle.scopes.specs.Environments.{IsEnvironmentAt}
use Rattle.hole_texts.specs.Texts.{HasTexts}

-- The site is that of a hole of a text in UTF-8 with this unit.
pub record IsTextHole (u : unit.Unit) (site : HoleSite) : Type 0 where
  pub hole : IsHoleIn u site
  pub utf8 : IsUtf8 hole.text

-- An environment that is made for a hole of a text in UTF-8, over published classes of which each stands once, and with
-- weights in their ranges, as in the state of each history.
pub record IsOfHole (g : Parts) : Type 0 where
  pub state : State
  pub unit : unit.Unit
  pub site : HoleSite
  pub limit : ℕ
  pub depth : ℕ
  pub once : HasEachOnce state.classes
  pub weights : AreWeights state.weights
  pub hole : IsHoleIn unit site
  pub utf8 : IsUtf8 hole.text
  pub limits : (1 ≤ limit) × (limit ≤ 10000)
  pub shallow : depth ≤ greatest_depth
  pub is_environment : IsEnvironmentAt state unit site limit depth g
  pub texts : HasTexts g
