-- What is offered at a hole.
use Rattle.std.specs.Prelude.{◌≡◌, true, length}
use Rattle.java_units.specs.declared.types.Unit as unit
use Rattle.known_classes.specs.Merging.{merged}
use Rattle.class_summary.specs.SourceSummaries.{summaries_of}
use Rattle.type_names.specs.declared.kinds.Erased.{Erased}
use Rattle.subtyping.specs.Steps.{IsStrictSubtype}
use Rattle.decl_index.specs.History.{State, use_of}
use Rattle.java_bodies.specs.declared.site.HoleSite.{HoleSite}
use Rattle.offers.specs.declared.offer.Offer.{Offer}
use Rattle.offers.specs.Scenes.{Scene}
use Rattle.java_units.specs.Identifiers.{is_identifier}
use Rattle.offers.specs.Omissions.{after_three, after_five}
use Rattle.offers.specs.Functional.{faces}
use Rattle.offers.specs.Pairs.{pairs_of}
use Rattle.offers.specs.Types.{environment_types, is_below_at}

-- `below` is the strict subtype relation among the known classes.
pub record IsOrder (v : Scene) : Type 0 where
  pub sound : (a b : Erased) → v.below a b ≡ true → IsStrictSubtype v.known a b
  pub complete : (a b : Erased) → IsStrictSubtype v.known a b → v.below a b ≡ true

-- The scene of a site: the known classes are those of the index with the summaries of the unit's, `below` is their strict
-- subtype relation, and the usage counts and the weights are the index's.
pub record IsSceneAt (state : State) (u : unit.Unit) (site : HoleSite) (v : Scene) : Type 0 where
  pub unit : v.unit ≡ u
  pub place : v.site ≡ site
  pub known : v.known ≡ merged state.classes (summaries_of u state.classes)
  pub order : IsOrder v
  pub usage : v.usage ≡ use_of state.counts
  pub weights : v.weights ≡ state.weights
  pub word : v.word ≡ is_identifier

-- The types of values that are mentioned, their pairs, the members after the five omissions, and the functional interfaces.
pub record IsOffer (v : Scene) (o : Offer) : Type 0 where
  pub types : o.types ≡ environment_types v
  pub pairs : o.pairs ≡ pairs_of (length (environment_types v)) (is_below_at v (environment_types v))
  pub members : o.members ≡ after_five v (environment_types v) (after_three v)
  pub lambdas : o.faces ≡ faces v

pub record IsOfferAt (state : State) (u : unit.Unit) (site : HoleSite) (o : Offer) : Type 0 where
  pub scene : Scene
  pub is_scene : IsSceneAt state u site scene
  pub offer : IsOffer scene o
