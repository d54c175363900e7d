-- The sites of holes in texts.
use Rattle.std.specs.Prelude.{◌≡◌, ℕ, ◌≤◌, List, length, Some}
use Rattle.java_tokens.specs.declared.token.Token.{Token}
use Rattle.java_tokens.specs.Tokens.{AreTokensOf, Tile}
use Rattle.java_units.specs.declared.types.Unit as unit
use Rattle.java_units.specs.Units.{IsUnit}
use Rattle.java_bodies.specs.declared.site.HoleSite.{HoleSite}
use Rattle.java_bodies.specs.Sites.{hole_of}

-- The site is that of a hole at some place of a text of at most 16 MiB with this unit.
pub record IsHoleIn (u : unit.Unit) (site : HoleSite) : Type 0 where
  pub text : List ℕ
  pub tokens : List Token
  pub place : ℕ
  pub short : length text ≤ 16777216
  pub are_tokens : AreTokensOf text tokens
  pub tile : Tile 0 (length text) tokens
  pub is_unit : IsUnit text tokens u
  pub is_site : hole_of text tokens u place ≡ Some site
