-- What holds of the unit of each text.
use Rattle.std.specs.Prelude.{◌≡◌, ◌<◌, ◌≤◌, ℕ, All, List, length, slice_get, Option, Some, None}
use Rattle.java_tokens.specs.declared.token.Token.{Token}
use Rattle.java_units.specs.declared.types.SourceClass.{SourceClass}
use Rattle.java_units.specs.declared.types.Unit as unit
use Rattle.java_units.specs.Units.{IsUnit}

-- The number of the class around a class, where there is one.
abbrev pub outer_number : Option SourceClass → Option ℕ
outer_number None = None
outer_number (Some c) = c.outer

-- Each class stands after the class around it.
pub record IsNested (classes : List SourceClass) : Type 0 where
  pub after : (i o : ℕ) → outer_number (slice_get classes i) ≡ Some o → o < i

-- The text with these tokens has no other unit.
abbrev pub IsOnlyUnit : List ℕ → List Token → unit.Unit → Type 0
IsOnlyUnit text tokens u = (other : unit.Unit) → IsUnit text tokens other → other ≡ u

-- The text with these tokens has a unit.
pub record HasUnit (text : List ℕ) (tokens : List Token) : Type 0 where
  pub one : unit.Unit
  pub is : IsUnit text tokens one

-- There are no more classes than tokens, and no more methods in any one of them.
pub record AreFew (tokens : List Token) (classes : List SourceClass) : Type 0 where
  pub few_classes : length classes ≤ length tokens
  pub few_methods : All (λ c. length c.methods ≤ length tokens) classes
