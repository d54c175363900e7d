-- What follows from the definition of a canonical name.
use Rattle.std.specs.Prelude.{◌≡◌, ℕ, if◌then◌else◌, List}
use Rattle.known_classes.specs.declared.summary.ClassSummary.{ClassSummary}
use Rattle.known_classes.specs.Known.{class_named, nesting_at, outer_of, simple_in, cycles, dotted, nested_name, canonical}

-- The canonical name of a class that doesn't reach itself by outer classes is that of its outer class, `.` and its
-- simple name, where its nesting has both; else it is the class's own name with `.` for `/` (JLS 6.7).
abbrev pub MeetsEquation : List ClassSummary → List ℕ → Type 0
MeetsEquation known name =
    canonical known name ≡ (if cycles known name then dotted name else nested_name (outer_of known name) (simple_in (nesting_at (class_named known name))) (canonical known) (dotted name))
