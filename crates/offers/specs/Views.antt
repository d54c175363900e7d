-- What a hole's scene is made of, and the tables that a view of it keeps.
use Rattle.std.specs.Prelude.{◌≡◌, ℕ, List}
use Rattle.java_units.specs.declared.types.Unit as unit
use Rattle.known_classes.specs.Known.{KnownClasses}
use Rattle.class_summary.specs.SourceSummaries.{Source}
use Rattle.subtyping.specs.Places.{Ancestry, IsAncestry}
use Rattle.decl_index.specs.History.{use_of}
use Rattle.decl_index.specs.Weighing.{AreWeights}
use Rattle.java_bodies.specs.declared.site.HoleSite.{HoleSite}
use Rattle.decl_index.specs.declared.weights.Weights.{Weights}
use Rattle.offers.specs.Sites.{IsSiteOf}
use Rattle.offers.specs.Scenes.{Scene, edited, package_here, own_names}
use Rattle.java_units.specs.Identifiers.{is_identifier}
use Rattle.offers.specs.Order.{is_below}

-- A unit and a site of it, the known classes with those of the unit, the ancestors of each, the usage counts and the weights.
pub record Outlook : Type 0 where
  pub unit : unit.Unit
  pub site : HoleSite
  pub known : KnownClasses
  pub ancestry : Ancestry
  pub counts : List (List ℕ × ℕ)
  pub weights : Weights

-- The scene that is seen from there.
abbrev pub scene : Outlook → Scene
scene o = record {
  unit = o.unit;
  site = o.site;
  known = o.known;
  below = is_below o.ancestry;
  usage = use_of o.counts;
  weights = o.weights;
  word = is_identifier;
}

-- The tables of a view are those of its scene.
pub record IsView (o : Outlook) (source : Source) (own_name near : List ℕ) (names : List (List ℕ)) : Type 0 where
  pub site : IsSiteOf o.unit o.site
  pub ancestry : IsAncestry o.known o.ancestry
  pub resolver : source ≡ record { unit = o.unit; known = o.known }
  pub edited : own_name ≡ edited (scene o)
  pub home : near ≡ package_here (scene o)
  pub own : names ≡ own_names (scene o)
  pub weights : AreWeights o.weights
