-- Classes by the class around them and their simple names (JVMS 4.7.6).
use Rattle.std.specs.Prelude.{◌≡◌, ◌<◌, ℕ, ◌&&◌, ◌||◌, if◌then◌else◌, Bool, false, List, [], ◌∷◌, slice_get, length, bytes_eq, Option, Some, None}
use Rattle.known_classes.specs.Known.{lesser, outer_in, simple_in}
use Rattle.known_classes.specs.declared.summary.ClassSummary.{ClassSummary}
use Rattle.known_classes.specs.declared.summary.Nesting.{Nesting}

abbrev pub same_text : Option (List ℕ) → List ℕ → Bool
same_text None name = false
same_text (Some text) name = bytes_eq name text

-- Whether a class stands directly in the class of this internal name, and has this simple name.
abbrev pub is_nested : List ℕ → List ℕ → Option Nesting → Bool
is_nested outer name n = same_text (outer_in n) outer && same_text (simple_in n) name

-- The known class that stands directly in that class and has this simple name; of several, the one of the least name.
unfoldable pub nested_class : List ℕ → List ℕ → List ClassSummary → Option ClassSummary
nested_class outer name [] = None
nested_class outer name (c ∷ cs) =
    if is_nested outer name c.nesting then Some (lesser c (nested_class outer name cs)) else nested_class outer name cs

-- The class at a place, or none.
abbrev pub class_at : List ClassSummary → Option ℕ → Option ClassSummary
class_at known None = None
class_at known (Some i) = slice_get known i

-- The answer is the place of the lesser of the classes at these places.
abbrev pub IsLesser : List ClassSummary → ℕ → Option ℕ → ℕ → Type 0
IsLesser known place best result = (c : ClassSummary) → slice_get known place ≡ Some c → slice_get known result ≡ Some (lesser c (class_at known best))

-- The same, where the first may be missing too.
abbrev pub IsLesserOf : List ClassSummary → Option ℕ → Option ℕ → Option ℕ → Type 0
IsLesserOf known None other result = result ≡ other
IsLesserOf known (Some place) other result = (r : ℕ) × (result ≡ Some r) × (r < length known) × IsLesser known place other r

-- Whether a class is recorded as nested in the class of this name.
unfoldable pub surrounds : List ClassSummary → List ℕ → Bool
surrounds [] name = false
surrounds (c ∷ cs) name = same_text (outer_in c.nesting) name || surrounds cs name
