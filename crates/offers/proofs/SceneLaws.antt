-- The scene of a hole.
use Rattle.std.proofs.Common.{◌≡◌, ◌∙◌, ap, sym, subst, refl, List}
use Rattle.java_units.specs.declared.types.Unit as unit
use Rattle.known_classes.specs.declared.summary.ClassSummary.{ClassSummary}
use Rattle.known_classes.specs.Merging.{merged}
use Rattle.class_summary.specs.SourceSummaries.{summaries_of}
use Rattle.decl_index.specs.History.{State}
use Rattle.subtyping.specs.Places.{Ancestry, IsAncestry}
use Rattle.java_bodies.specs.declared.site.HoleSite.{HoleSite}
use Rattle.offers.specs.Views.{Outlook, scene}
use Rattle.offers.specs.Offers.{IsSceneAt}
use Rattle.offers.proofs.SubtypeTest.{test-sound, test-complete}

abbrev outlook : unit.Unit → HoleSite → List ClassSummary → Ancestry → State → Outlook
outlook u site known ancestry state = record { unit = u; site = site; known = known; ancestry = ancestry; counts = state.counts; weights = state.weights }

pub scene-at : (state : State) (u : unit.Unit) (site : HoleSite) (o : Outlook) (known own : List ClassSummary) (ancestry : Ancestry) → o ≡ record { unit = u; site = site; known = known; ancestry = ancestry; counts = state.counts; weights = state.weights } → known ≡ merged state.classes own → own ≡ summaries_of u state.classes → IsAncestry known ancestry → IsSceneAt state u site (scene o)
scene-at state u site o known own ancestry e k w h = subst (λ (p : Outlook). IsSceneAt state u site (scene p)) (sym e) (record {
  unit = refl;
  place = refl;
  known = k ∙ ap (merged state.classes) w;
  order = record { sound = λ a b t. test-sound known ancestry h a b t; complete = λ a b p. test-complete known ancestry h a b p };
  usage = refl;
  weights = refl;
  word = refl;
})
