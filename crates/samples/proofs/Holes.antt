-- The hole of a text, and its environment in a version.
use Rattle.std.proofs.Common.{◌≡◌, ◌≤◌, ◌∙◌, ℕ, List, length, sym, Option, Some}
use Rattle.java_tokens.specs.declared.token.Token.{Token}
use Rattle.java_tokens.specs.Tokens.{AreTokensOf, Tile}
use Rattle.java_units.specs.declared.types.Unit as unit
use Rattle.java_units.specs.Units.{IsUnit}
use Rattle.java_bodies.specs.declared.site.HoleSite.{HoleSite}
use Rattle.java_bodies.specs.Sites.{hole_of}
use Rattle.decl_index.specs.declared.change.Change.{Change}
use Rattle.version_board.specs.declared.snapshot.Snapshot.{Snapshot}
use Rattle.version_board.specs.Versions.{IsVersion}
use Rattle.terms.specs.declared.parts.Parts.{Parts}
use Rattle.offers.specs.Sites.{IsSiteOf}
use Rattle.scopes.specs.Environments.{IsEnvironmentAt}
use Rattle.scopes.proofs.HoleSites.{hole_site}
use Rattle.samples.specs.Samples.{HasEnvironment}

-- The site of a text's hole is one of its unit.
pub site_of_text : (text : List ℕ) (tokens : List Token) (place : ℕ) (u : unit.Unit) (found : Option HoleSite) (site : HoleSite)
    → length text ≤ 16777216 → AreTokensOf text tokens → Tile 0 (length text) tokens → IsUnit text tokens u
    → found ≡ hole_of text tokens u place → found ≡ Some site → IsSiteOf u site
site_of_text text tokens place u found site short lexed tile parsed is some =
    hole_site u site (record { text = text; tokens = tokens; place = place; short = short; are_tokens = lexed; tile = tile; is_unit = parsed; is_site = sym is ∙ some })

-- Its environment is one of the hole.
pub at_hole : (history : List Change) (version : Snapshot) (text : List ℕ) (tokens : List Token) (place : ℕ) (u : unit.Unit) (found : Option HoleSite) (site : HoleSite) (env : Parts)
    → IsVersion history version → AreTokensOf text tokens → IsUnit text tokens u
    → found ≡ hole_of text tokens u place → found ≡ Some site → IsEnvironmentAt version.index u site 4000 1 env
    → HasEnvironment history (record { text = text; place = place; limit = 4000; depth = 1 }) env
at_hole history version text tokens place u found site env is_version lexed parsed is some gives = record {
  site = site;
  place = record { tokens = tokens; unit = u; lexed = lexed; parsed = parsed; is = sym some ∙ is };
  environment = record { state = version.index; tokens = tokens; unit = u; is_state = is_version.state; lexed = lexed; parsed = parsed; gives = gives };
}
