-- What stands in the table of the imports without star by their last names.
use Rattle.std.specs.Prelude.{◌≡◌, ℕ, ◌-◌, if◌then◌else◌, List, length, slice_get, Option, Some, None}
use Rattle.java_units.specs.declared.types.Import.{Import}
use Rattle.known_classes.specs.NameTables.{Table}
use Rattle.class_summary.specs.Names.{imported}

-- The last name of an import without star.
abbrev pub single_name : Import → Option (List ℕ)
single_name m = if m.star then None else slice_get m.parts (length m.parts - 1)

abbrev pub import_at : List Import → Option ℕ → Option Import
import_at imports None = None
import_at imports (Some i) = slice_get imports i

-- The table gives the place of the import that counts for a name.
abbrev pub GivesImported : List Import → Table → Type 0
GivesImported imports table = (name : List ℕ) → import_at imports (table name) ≡ imported name imports
