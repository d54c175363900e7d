-- A step from a class to its outer class.
use Rattle.std.specs.Prelude.{ℕ, if◌then◌else◌, List, Option, Some, None}
use Rattle.known_classes.specs.declared.summary.ClassSummary.{ClassSummary}
use Rattle.known_classes.specs.Known.{cycles, outer_of, simple_in, nesting_at, class_named}

abbrev pub both : Option (List ℕ) → Option (List ℕ) → Option (List ℕ × List ℕ)
both None simple = None
both (Some outer) None = None
both (Some outer) (Some simple) = Some (outer, simple)

-- The outer class and the simple name of a class, where it has both and doesn't reach itself by outer classes.
unfoldable pub outwards : List ClassSummary → List ℕ → Option (List ℕ × List ℕ)
outwards cs name = if cycles cs name then None else both (outer_of cs name) (simple_in (nesting_at (class_named cs name)))
