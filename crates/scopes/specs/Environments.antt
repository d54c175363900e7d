-- The environment of a hole.
use Rattle.std.specs.Prelude.{◌≡◌, ℕ, List, ◌++◌, map}
use Rattle.terms.specs.declared.parts.Decl.{Decl}
use Rattle.terms.specs.declared.parts.Parts.{Parts}
use Rattle.terms.specs.declared.parts.Steps.{Steps}
use Rattle.java_units.specs.declared.types.Unit as unit
use Rattle.java_bodies.specs.declared.site.HoleSite.{HoleSite}
use Rattle.decl_index.specs.declared.weights.Weights.{Weights}
use Rattle.decl_index.specs.History.{State}
use Rattle.offers.specs.Scenes.{Scene, denoted}
use Rattle.offers.specs.declared.member.Member.{Member}
use Rattle.offers.specs.declared.member.Face.{Face}
use Rattle.offers.specs.Omissions.{after_three, taken_names}
use Rattle.offers.specs.Functional.{faces}
use Rattle.offers.specs.Pairs.{pairs_of}
use Rattle.offers.specs.Offers.{IsSceneAt}
use Rattle.scopes.specs.Kinds.{Kinds, listed, count, type_number, is_below_in, kind_text, environment_kinds}
use Rattle.scopes.specs.Declarations.{decls_of}
use Rattle.scopes.specs.Binders.{form_text, words, binder_of}

-- The weights that belong to no declaration.
abbrev pub steps_of : Weights → Steps
steps_of w = record { bound = w.bound; binder = w.binder; step = w.step }

abbrev pub parts_by : Scene → Kinds → List Decl → ℕ → ℕ → Parts
parts_by v ks ds limit depth = record {
  types = map (kind_text v) (listed ks);
  pairs = pairs_of (count ks) (is_below_in v ks);
  decls = ds;
  goal = type_number ks (denoted v v.site.wanted);
  limit = limit;
  depth = depth;
  binder = binder_of (words (map (λ d. form_text d.form) ds ++ map (kind_text v) (listed ks)) ++ taken_names v);
  steps = steps_of v.weights;
}

abbrev pub environment_by : Scene → Kinds → List Member → List Face → ℕ → ℕ → Parts
environment_by v ks ms fs limit depth = parts_by v ks (decls_of v ks ms fs) limit depth

-- The environment, within a limit and a depth.
unfoldable pub environment_of : Scene → ℕ → ℕ → Parts
environment_of v limit depth = environment_by v (environment_kinds v) (after_three v) (faces v) limit depth

-- The environment of a hole: that of some scene of it.
pub record IsEnvironmentAt (state : State) (u : unit.Unit) (site : HoleSite) (limit depth : ℕ) (parts : Parts) : Type 0 where
  pub scene : Scene
  pub is_scene : IsSceneAt state u site scene
  pub exact : parts ≡ environment_of scene limit depth

-- What is seen of a scene before its declarations are made: the members after three omissions, the functional interfaces,
-- and the types.
pub record IsSeen (v : Scene) (ms : List Member) (fs : List Face) (ks : Kinds) : Type 0 where
  pub members : ms ≡ after_three v
  pub lambdas : fs ≡ faces v
  pub kinds : ks ≡ environment_kinds v
