-- Two sorted lists of classes as one, and a list without the classes of some names.
use Rattle.std.specs.Prelude.{◌≡◌, if◌then◌else◌, Bool, true, false, List, [], ◌∷◌, filter, not, bytes_eq}
use Rattle.std.specs.declared.cmp.Ordering.{Ordering}
use Rattle.std.specs.declared.cmp.Ordering.TheVariants.{Greater}
use Rattle.std.specs.Option.{option_or}
use Rattle.known_classes.specs.declared.summary.ClassSummary.{ClassSummary}
use Rattle.known_classes.specs.Known.{class_named}
use Rattle.decl_index.specs.History.{Name, order, Rises}

-- Whether the name is one of the names.
unfoldable pub is_among : List Name → Name → Bool
is_among [] n = false
is_among (m ∷ ms) n = if bytes_eq n m then true else is_among ms n

-- The classes whose names don't pass.
abbrev pub others : (Name → Bool) → List ClassSummary → List ClassSummary
others passes cs = filter (λ c. not (passes c.name)) cs

-- How the first class's name stands to a name; behind it where there is no class.
abbrev pub prefix_order : Name → List ClassSummary → Ordering
prefix_order n [] = Greater
prefix_order n (c ∷ cs) = order c.name n

-- The classes of both lists, of one name that of the newer list.
pub record IsMerge (older newer all : List ClassSummary) : Type 0 where
  pub rises : Rises all
  pub each : (n : Name) → class_named all n ≡ option_or (class_named newer n) (class_named older n)
