-- What a text has at a place, and what a list is made of.
use Rattle.std.specs.Prelude.{◌≡◌, ◌≤◌, ℕ, List, length, Option}
use Rattle.decl_index.specs.declared.change.Change.{Change}
use Rattle.decl_index.specs.History.{State, IsState}
use Rattle.java_tokens.specs.declared.token.Token.{Token}
use Rattle.java_tokens.specs.Tokens.{AreTokensOf, Tile, AreWithin}
use Rattle.java_units.specs.declared.types.Unit as unit
use Rattle.java_units.specs.Units.{IsUnit}
use Rattle.java_bodies.specs.declared.site.HoleSite.{HoleSite}
use Rattle.java_bodies.specs.Sites.{hole_of}
use Rattle.terms.specs.declared.parts.Parts.{Parts}
use Rattle.scopes.specs.Environments.{IsEnvironmentAt}
use Rattle.lsp_forms.specs.declared.forms.Initialize.{Initialize}
use Rattle.answers.specs.declared.types.Hole.{Hole}

-- The hole at a place of a text, by the options of a session.
abbrev pub hole_in : List ℕ → ℕ → Initialize → Hole
hole_in text place options = record { text = text; place = place; limit = options.limit; depth = options.depth }

-- The unit is that of the text, and the site that of the hole at the place.
pub record IsSpot (text : List ℕ) (place : ℕ) (u : unit.Unit) (site : Option HoleSite) : Type 0 where
  pub tokens : List Token
  pub short : length text ≤ 16777216
  pub lexed : AreTokensOf text tokens
  pub tile : Tile 0 (length text) tokens
  pub whole : AreWithin text tokens
  pub parsed : IsUnit text tokens u
  pub is : site ≡ hole_of text tokens u place

-- The environment is that of the site in the version of the history, whose number is told.
pub record IsMade (history : List Change) (u : unit.Unit) (site : HoleSite) (options : Initialize) (env : Parts) (version : ℕ) : Type 0 where
  pub state : State
  pub is_state : IsState history state
  pub gives : IsEnvironmentAt state u site options.limit options.depth env
  pub number : version ≡ length history
