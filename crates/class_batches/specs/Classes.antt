-- The classes of files.
use Rattle.std.specs.Prelude.{◌≡◌, ℕ, List}
use Rattle.std.specs.List.{AllZip}
use Rattle.class_shape.specs.Shapes.{IsClassFile}
use Rattle.class_shape.specs.declared.shapes.ClassShape.{ClassShape}
use Rattle.class_summary.specs.Summaries.{summary_of}
use Rattle.known_classes.specs.declared.summary.ClassSummary.{ClassSummary}

-- The bytes are a class file (JVMS chapter 4), and the class is its summary.
pub record IsSummaryOf (bytes : List ℕ) (class : ClassSummary) : Type 0 where
  pub shape : ClassShape
  pub is_file : IsClassFile bytes shape
  pub kept : class ≡ summary_of shape

-- The classes are those of the files, in their order.
abbrev pub AreSummariesOf : List (ℕ × List ℕ) → List ClassSummary → Type 0
AreSummariesOf files classes = AllZip (λ file class. IsSummaryOf file.1 class) files classes
