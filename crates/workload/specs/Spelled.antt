-- An entry that is written: its text is spelled, within the length that two bytes count.
use Rattle.std.specs.Prelude.{◌<◌, List, length, ⊤}
use Rattle.std.specs.List.{AllByRecursion}
use Rattle.class_pool.specs.Units.{IsText}
use Rattle.class_shape.specs.declared.shapes.ClassShape.{ClassShape}
use Rattle.workload.specs.Modified.{modified}
use Rattle.workload.specs.Needs.{Needed, class, text}
use Rattle.workload.specs.Flags.{HasShortFlags}

abbrev pub IsSpelled : Needed → Type 0
IsSpelled (class name) = ⊤
IsSpelled (text t) = IsText (modified t) t × (length (modified t) < 65536)

-- What is known of a shape that was written: its numbers have two bytes, and the texts of its pool are spelled.
pub record IsWritten (pool : List Needed) (s : ClassShape) : Type 0 where
  pub minor : s.minor < 65536
  pub major : s.major < 65536
  pub flags : s.flags < 65536
  pub short : HasShortFlags s
  pub spelled : AllByRecursion IsSpelled pool
