-- The site of a spot is one of its unit.
use Rattle.std.proofs.Common.{◌≡◌, ◌∙◌, ℕ, List, sym, Option, Some}
use Rattle.java_units.specs.declared.types.Unit as unit
use Rattle.java_bodies.specs.declared.site.HoleSite.{HoleSite}
use Rattle.offers.specs.Sites.{IsSiteOf}
use Rattle.scopes.proofs.HoleSites.{hole_site}
use Rattle.sessions.specs.Spots.{IsSpot}

pub site_of_unit : (text : List ℕ) (place : ℕ) (u : unit.Unit) (o : Option HoleSite) (s : HoleSite) → IsSpot text place u o → o ≡ Some s → IsSiteOf u s
site_of_unit text place u o s h some = hole_site u s (record { text = text; tokens = h.tokens; place = place; short = h.short; are_tokens = h.lexed; tile = h.tile; is_unit = h.parsed; is_site = sym h.is ∙ some })
