-- The site of a hole, and its environment in a version.
use Rattle.std.specs.Prelude.{◌≡◌, List, Option}
use Rattle.decl_index.specs.declared.change.Change.{Change}
use Rattle.decl_index.specs.History.{State, IsState}
use Rattle.java_tokens.specs.declared.token.Token.{Token}
use Rattle.java_tokens.specs.Tokens.{AreTokensOf}
use Rattle.java_units.specs.declared.types.Unit as unit
use Rattle.java_units.specs.Units.{IsUnit}
use Rattle.java_bodies.specs.declared.site.HoleSite.{HoleSite}
use Rattle.java_bodies.specs.Sites.{hole_of}
use Rattle.terms.specs.declared.parts.Parts.{Parts}
use Rattle.scopes.specs.Environments.{IsEnvironmentAt}
use Rattle.answers.specs.declared.types.Hole.{Hole}

-- The site of the hole at the place of the text, or none where the place is no hole.
pub record IsSite (hole : Hole) (site : Option HoleSite) : Type 0 where
  pub tokens : List Token
  pub unit : unit.Unit
  pub lexed : AreTokensOf hole.text tokens
  pub parsed : IsUnit hole.text tokens unit
  pub is : site ≡ hole_of hole.text tokens unit hole.place

-- The environment of the site of a hole in a version: that in the state which the history leaves, for the unit of the
-- hole's text.
pub record IsEnvironmentIn (history : List Change) (hole : Hole) (site : HoleSite) (env : Parts) : Type 0 where
  pub state : State
  pub tokens : List Token
  pub unit : unit.Unit
  pub is_state : IsState history state
  pub lexed : AreTokensOf hole.text tokens
  pub parsed : IsUnit hole.text tokens unit
  pub gives : IsEnvironmentAt state unit site hole.limit hole.depth env
