-- What stands above known classes: names that aren't known themselves, and interfaces.
use Rattle.std.specs.Prelude.{ℕ, Bool, ◌||◌, not, List, bytes_eq, is_some}
use Rattle.std.specs.List.{list_all, filter, flat_map}
use Rattle.type_names.specs.Names.{object_name}
use Rattle.known_classes.specs.declared.summary.ClassSummary.{ClassSummary}
use Rattle.known_classes.specs.Known.{class_named}
use Rattle.offers.specs.Scenes.{Scene, of_class}
use Rattle.offers.specs.Functional.{is_interface}

-- Neither java/lang/Object nor known.
abbrev pub is_missing : Scene → List ℕ → Bool
is_missing v name = not (bytes_eq name object_name || is_some (class_named v.known name))

abbrev pub missing_in : Scene → ClassSummary → List (List ℕ)
missing_in v d = filter (is_missing v) d.supers

-- The supers of known classes that are missing.
unfoldable pub missing : Scene → List (List ℕ)
missing v = flat_map (missing_in v) v.known

-- A class is below none of these.
abbrev pub is_apart : Scene → ClassSummary → List (List ℕ) → Bool
is_apart v c names = list_all (λ n. not (v.below (of_class c.name) (of_class n))) names

-- The known interfaces.
abbrev pub interfaces : Scene → List ClassSummary
interfaces v = filter is_interface v.known
