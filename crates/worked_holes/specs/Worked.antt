-- Versions with the classes of small texts, in which the holes worked out by hand have one environment.
use Rattle.std.specs.Prelude.{◌≡◌, ◌↔◌, ℕ, List, [], ◌∷◌, codes, None}
use Rattle.type_names.specs.Names.{object_name}
use Rattle.known_classes.specs.declared.summary.ClassSummary.{ClassSummary}
use Rattle.decl_index.specs.History.{State}
use Rattle.decl_index.specs.Weighing.{usual}
use Rattle.terms.specs.declared.parts.Parts.{Parts}
use Rattle.java_units.specs.declared.types.Unit as unit
use Rattle.java_bodies.specs.declared.site.HoleSite.{HoleSite}
use Rattle.offers.specs.Scenes.{of_class}
use Rattle.scopes.specs.Environments.{IsEnvironmentAt}
use Rattle.scopes.specs.Rows.{class_by, method_by, int, made, made_of, gives_int, reader}

-- A version with these classes, in which no member was used and no weights were set.
unfoldable pub version : List ClassSummary → ℕ → State
version classes number = record { classes = classes; counts = []; weights = usual; number = number }

-- Wherever a version has just these classes, the hole at this site of the unit has this environment, and no other.
abbrev pub HasOnly : List ClassSummary → unit.Unit → HoleSite → ℕ → Parts → Type 0
HasOnly classes u site limit parts = (number : ℕ) (other : Parts) → IsEnvironmentAt (version classes number) u site limit 1 other ↔ (other ≡ parts)

-- A class with two methods of one name.
unfoldable pub of_two_methods : List ClassSummary
of_two_methods =
    class_by (codes "q/T") 1 (object_name ∷ []) [] (made 1 ∷ gives_int 9 (of_class object_name ∷ []) ∷ gives_int 9 (of_class (codes "java/lang/String") ∷ []) ∷ []) ∷ []

-- A class, and one below it that has its method again.
unfoldable pub of_an_override : List ClassSummary
of_an_override =
    class_by (codes "q/A") 1 (object_name ∷ []) [] (made 1 ∷ gives_int 1 [] ∷ [])
    ∷ class_by (codes "q/B") 1 (codes "q/A" ∷ []) [] (made 1 ∷ gives_int 1 [] ∷ []) ∷ []

-- A class of two interfaces with one method each.
unfoldable pub of_two_interfaces : List ClassSummary
of_two_interfaces =
    class_by (codes "q/B") 1 (object_name ∷ codes "q/I" ∷ codes "q/J" ∷ []) [] (made 1 ∷ [])
    ∷ class_by (codes "q/I") 1537 (object_name ∷ []) [] (gives_int 1025 [] ∷ [])
    ∷ class_by (codes "q/J") 1537 (object_name ∷ []) [] (gives_int 1025 [] ∷ []) ∷ []

-- An abstract class, and two below it.
unfoldable pub of_streams : List ClassSummary
of_streams =
    class_by (codes "java/io/BufferedReader") 1 (reader ∷ []) [] (made_of reader ∷ [])
    ∷ class_by (codes "java/io/FileReader") 1 (reader ∷ []) [] (made_of (codes "java/lang/String") ∷ [])
    ∷ class_by reader 1025 (object_name ∷ []) [] [] ∷ []

-- An interface of one method without result.
unfoldable pub of_a_sink : List ClassSummary
of_a_sink = class_by (codes "q/K") 1537 (object_name ∷ []) [] (method_by 1025 (codes "put") (int ∷ []) None ∷ []) ∷ []
