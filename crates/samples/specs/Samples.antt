-- The version that holds the classes of a sample, and the environment of a hole in it.
use Rattle.std.specs.Prelude.{ℕ, List, [], ◌∷◌, map, Some}
use Rattle.class_summary.specs.Summaries.{summary_of}
use Rattle.decl_index.specs.declared.change.Change.{Change}
use Rattle.decl_index.specs.declared.change.Change.TheVariants.{Publish}
use Rattle.decl_index.specs.declared.change.ChangeFault.{ChangeFault}
use Rattle.decl_index.specs.Refusals.{Refuses}
use Rattle.class_shape.specs.declared.shapes.ClassShape.{ClassShape}
use Rattle.java_bodies.specs.declared.site.HoleSite.{HoleSite}
use Rattle.terms.specs.declared.parts.Parts.{Parts}
use Rattle.workload.specs.Samples.{classes_drawn, picked, drawn}
use Rattle.workload.specs.declared.sample.Sample.{Sample}
use Rattle.answers.specs.declared.types.Hole.{Hole}
use Rattle.answers.specs.Holes.{IsSite, IsEnvironmentIn}

-- The change that puts in what is kept of these classes, in their order.
abbrev pub publication_of : List ClassShape → Change
publication_of classes = Publish (map summary_of classes) [] []

-- The history of this one change.
abbrev pub history_of : List ClassShape → List Change
history_of classes = publication_of classes ∷ []

-- The hole of a sample, with the greatest weight and the depth of lambdas that a session has unless it is told others.
abbrev pub hole_of : Sample → Hole
hole_of sample = record { text = sample.source; place = sample.place; limit = 4000; depth = 1 }

-- The number of the class of which a value is wanted at the hole: drawn after all classes.
abbrev pub goal_of : ℕ → ℕ
goal_of n = picked (drawn (classes_drawn 200 0 n).1) 200

-- Nothing refuses the change as the first one.
abbrev pub IsLawful : Change → Type 0
IsLawful change = (why : ChangeFault) → Refuses [] change why → ⊥

-- There is a hole at the place of the text, and this is its environment in the version of the history.
pub record HasEnvironment (history : List Change) (hole : Hole) (env : Parts) : Type 0 where
  pub site : HoleSite
  pub place : IsSite hole (Some site)
  pub environment : IsEnvironmentIn history hole site env
