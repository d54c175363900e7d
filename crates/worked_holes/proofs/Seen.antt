-- The scene of a hole in a version, and that it is the only one.
use Rattle.std.proofs.Common.{◌≡◌, ◌∙◌, ap, sym, refl, ℕ, List, [], Bool, true, false, if◌then◌else◌}
use Rattle.std.specs.List.{list_all}
use Rattle.std.specs.Char.{is_ascii}
use Rattle.std.proofs.Math.Path.{fun_ext}
use Rattle.known_classes.specs.declared.summary.ClassSummary.{ClassSummary}
use Rattle.known_classes.specs.Known.{KnownClasses}
use Rattle.known_classes.specs.Merging.{merged}
use Rattle.java_units.specs.Identifiers.{is_identifier, is_ascii_identifier}
use Rattle.java_units.proofs.IdentifierLaws.{ascii_identifiers}
use Rattle.subtyping.specs.Places.{Ancestry}
use Rattle.class_summary.specs.SourceSummaries.{summaries_of}
use Rattle.decl_index.specs.History.{use_of}
use Rattle.decl_index.specs.Weighing.{usual}
use Rattle.terms.specs.declared.parts.Parts.{Parts}
use Rattle.java_units.specs.declared.types.Unit as unit
use Rattle.java_bodies.specs.declared.site.HoleSite.{HoleSite}
use Rattle.offers.specs.Scenes.{Scene}
use Rattle.offers.specs.Order.{is_below}
use Rattle.offers.specs.Offers.{IsSceneAt}
use Rattle.offers.proofs.SubtypeTest.{test-sound, test-complete}
use Rattle.offers.proofs.OneScene.{one-scene}
use Rattle.scopes.specs.Environments.{environment_of}
use Rattle.worked_holes.specs.Worked.{version, HasOnly}
use Rattle.worked_holes.proofs.Ancestries.{is_table, ancestry}

-- which texts are identifiers, by tests that compute where a text is of ASCII
unfoldable pub is_named : List ℕ → Bool
is_named text = if list_all is_ascii text then is_ascii_identifier text else is_identifier text

named-by : (t : Bool) (text : List ℕ) → list_all is_ascii text ≡ t → is_identifier text ≡ (if t then is_ascii_identifier text else is_identifier text)
named-by true text e = ascii_identifiers text e
named-by false text e = refl

named : is_identifier ≡ is_named
unfolding is_named
named = fun_ext (λ text. named-by (list_all is_ascii text) text refl)

-- what is seen from a hole in a version with these classes, by a table of ancestors and a test of identifiers
abbrev pub known_by : List ClassSummary → unit.Unit → KnownClasses
known_by classes u = merged classes (summaries_of u classes)

unfoldable pub seen : List ClassSummary → unit.Unit → HoleSite → Ancestry → (List ℕ → Bool) → Scene
seen classes u site s word = record {
  unit = u;
  site = site;
  known = known_by classes u;
  below = is_below s;
  usage = use_of [];
  weights = usual;
  word = word;
}

is-seen : (classes : List ClassSummary) (u : unit.Unit) (site : HoleSite) (s : Ancestry) (number : ℕ) → is_table (known_by classes u) s ≡ true → IsSceneAt (version classes number) u site (seen classes u site s is_identifier)
unfolding version seen
is-seen classes u site s number e =
    let known : KnownClasses = known_by classes u in
    let a = ancestry known s e in
    record {
      unit = refl;
      place = refl;
      known = refl;
      order = record { sound = test-sound known s a; complete = test-complete known s a };
      usage = refl;
      weights = refl;
      word = refl;
    }

pub only : (classes : List ClassSummary) (u : unit.Unit) (site : HoleSite) (s : Ancestry) (limit : ℕ) (parts : Parts) → is_table (known_by classes u) s ≡ true → environment_of (seen classes u site s is_named) limit 1 ≡ parts → HasOnly classes u site limit parts
only classes u site s limit parts e f number other =
    let v : Scene = seen classes u site s is_identifier in
    let here : environment_of v limit 1 ≡ parts = ap (λ word. environment_of (seen classes u site s word) limit 1) named ∙ f in
    let is = is-seen classes u site s number e in (
      λ h. h.exact ∙ ap (λ w. environment_of w limit 1) (one-scene (version classes number) u site h.scene v h.is_scene is) ∙ here,
      λ h. record { scene = v; is_scene = is; exact = h ∙ sym here },
    )
