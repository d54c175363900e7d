-- What holds of the classes of source texts.
use Rattle.std.specs.Prelude.{◌≡◌, ℕ, List}
use Rattle.known_classes.specs.declared.summary.ClassSummary.{ClassSummary}
use Rattle.source_classes.specs.SourceClasses.{AreSourceClasses}

-- The texts have classes.
pub record HaveSourceClasses (texts : List (List ℕ)) (known : List ClassSummary) : Type 0 where
  pub classes : List ClassSummary
  pub are : AreSourceClasses texts known classes

-- The texts have no other classes.
abbrev pub AreOnlySourceClasses : List (List ℕ) → List ClassSummary → List ClassSummary → Type 0
AreOnlySourceClasses texts known classes = (others : List ClassSummary) → AreSourceClasses texts known others → others ≡ classes
