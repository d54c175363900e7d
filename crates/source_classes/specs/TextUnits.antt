-- The units of source texts.
use Rattle.std.specs.Prelude.{ℕ, List}
use Rattle.std.specs.List.{AllZip}
use Rattle.java_tokens.specs.declared.token.Token.{Token}
use Rattle.java_tokens.specs.Tokens.{AreTokensOf}
use Rattle.java_units.specs.declared.types.Unit as unit
use Rattle.java_units.specs.Units.{IsUnit}

-- The text has this unit, by its tokens.
pub record IsUnitOf (text : List ℕ) (u : unit.Unit) : Type 0 where
  pub tokens : List Token
  pub lexed : AreTokensOf text tokens
  pub parsed : IsUnit text tokens u

-- These are the units of the texts, in their order.
abbrev pub AreUnitsOf : List (List ℕ) → List unit.Unit → Type 0
AreUnitsOf texts units = AllZip IsUnitOf texts units
