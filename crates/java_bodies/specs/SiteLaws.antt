-- What holds of the hole at each place of each text.
use Rattle.std.specs.Prelude.{◌≡◌, ℕ, ◌+◌, ◌≤◌, List, length, count_by, bytes_eq, Some}
use Rattle.std.specs.Str.{IsCharBoundary}
use Rattle.java_tokens.specs.declared.token.Token.{Token}
use Rattle.java_units.specs.declared.types.Unit as unit
use Rattle.java_bodies.specs.Sites.{hole_of}
use Rattle.java_bodies.specs.declared.site.HoleSite.{HoleSite}

-- A name stands once at most among the variables that can be used and the hidden names together.
abbrev pub NamesStandOnce : Type 0
NamesStandOnce = (text : List ℕ) (tokens : List Token) (u : unit.Unit) (place : ℕ) (s : HoleSite) (name : List ℕ) → hole_of text tokens u place ≡ Some s →
    count_by (λ l. bytes_eq l.name name) s.locals + count_by (λ h. bytes_eq h name) s.hidden ≤ 1

-- The prefix lies in the text and ends at the place.
abbrev pub PrefixEndsAtPlace : Type 0
PrefixEndsAtPlace = (text : List ℕ) (tokens : List Token) (u : unit.Unit) (place : ℕ) (s : HoleSite) → hole_of text tokens u place ≡ Some s → IsCharBoundary text place →
    (s.prefix.0 ≤ s.prefix.1) × (s.prefix.1 ≡ place) × (s.prefix.1 ≤ length text)
