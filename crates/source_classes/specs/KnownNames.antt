-- The classes that a publication makes known to its source texts, beside their own.
use Rattle.std.specs.Prelude.{◌≡◌, ℕ, Bool, List, [], ◌∷◌, ◌++◌, map, if◌then◌else◌, Option, Some, None}
use Rattle.std.specs.Path.{rsplit_once}
use Rattle.known_classes.specs.declared.summary.Nesting.{Nesting}
use Rattle.known_classes.specs.declared.summary.ClassSummary.{ClassSummary}
use Rattle.decl_index.specs.Merging.{is_among}
use Rattle.source_classes.specs.SourceClasses.{outline, last_ones, AreSourceClasses}

-- A name, where it isn't empty.
abbrev pub if_any : List ℕ → Option (List ℕ)
if_any [] = None
if_any (c ∷ cs) = Some (c ∷ cs)

-- The nesting of a class, by the parts of its name before and behind the last `$`: the part before it is the outer
-- class, where it is among the names, and the part behind it is the simple name. The flags are PUBLIC and STATIC (JVMS 4.7.6).
abbrev pub nesting_by : (List ℕ → Bool) → Option (List ℕ × List ℕ) → Option Nesting
nesting_by among None = None
nesting_by among (Some parts) = if among parts.0 then Some (record { outer = Some parts.0; simple = if_any parts.1; flags = 9 }) else None

-- A public class that is known by its name alone, among these names.
unfoldable pub named_class : (List ℕ → Bool) → List ℕ → ClassSummary
named_class among name = record { name = name; flags = 1; nesting = nesting_by among (rsplit_once 36 name); supers = []; fields = []; methods = [] }

-- The classes of these names, and then those that are put; what their names denote hangs on outlines alone.
abbrev pub told_classes : List ClassSummary → List (List ℕ) → List ClassSummary
told_classes puts names = map (named_class (is_among names)) names ++ map outline puts

-- The known classes of a publication: those that it puts, of two of one name the later one, and each name that is none of them.
abbrev pub known_of : List ClassSummary → List (List ℕ) → List ClassSummary
known_of puts names = last_ones (told_classes puts names)

-- A publication of these classes, with source texts and names of known classes, puts these: those classes, and then those of
-- the texts.
pub record ArePuts (puts : List ClassSummary) (names texts : List (List ℕ)) (all : List ClassSummary) : Type 0 where
  pub classes : List ClassSummary
  pub are : AreSourceClasses texts (known_of puts names) classes
  pub is : all ≡ puts ++ classes
