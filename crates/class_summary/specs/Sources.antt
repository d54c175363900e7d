-- The classes of a source text by number, and their names (JLS 6.7, 13.1).
use Rattle.std.specs.Prelude.{ℕ, zero, suc, List, [], ◌∷◌, ◌++◌, length, take, drop, map, reverse, slice_get, codes, Option, Some, None}
use Rattle.std.specs.List.{flat_map}
use Rattle.java_units.specs.declared.types.SourceClass.{SourceClass}
use Rattle.java_units.specs.declared.types.Unit as unit
use Rattle.java_units.specs.UnitLaws.{outer_number}

-- Parts, each behind a separator.
abbrev pub followed : List ℕ → List (List ℕ) → List ℕ
followed sign parts = flat_map (λ p. sign ++ p) parts

-- Parts with a separator between them.
unfoldable pub joined : List ℕ → List (List ℕ) → List ℕ
joined sign [] = []
joined sign (p ∷ ps) = p ++ followed sign ps

abbrev pub own_name : Option SourceClass → List ℕ
own_name None = []
own_name (Some c) = c.name

-- The class and the classes around it, from the innermost outwards, at most n.
unfoldable pub around_by : ℕ → List SourceClass → Option ℕ → List ℕ
around_by zero cs at = []
around_by (suc n) cs None = []
around_by (suc n) cs (Some i) = i ∷ around_by n cs (outer_number (slice_get cs i))

-- The class and the classes around it, from the innermost outwards. A class stands after its outer class, so
-- they are no more than there are classes.
abbrev pub around : List SourceClass → ℕ → List ℕ
around cs i = around_by (length cs) cs (Some i)

-- The simple name of the class number i.
abbrev pub name_at : List SourceClass → ℕ → List ℕ
name_at cs i = own_name (slice_get cs i)

-- The parts of the package, and then the simple names of the classes from the outermost inwards to this one.
abbrev pub path : unit.Unit → ℕ → List (List ℕ)
path u i = u.package ++ map (name_at u.classes) (reverse (around u.classes i))

-- The canonical name of a class of the text: all of its path, joined by `.`.
abbrev pub canonical_name : unit.Unit → ℕ → List ℕ
canonical_name u i = joined (codes ".") (path u i)

-- The first n parts joined by `/`, and then `$` before each further part.
abbrev pub binary : ℕ → List (List ℕ) → List ℕ
binary n parts = joined (codes "/") (take n parts) ++ followed (codes "$") (drop n parts)

-- The internal name of a class of the text: the package and the outermost class joined by `/`, then `$` before
-- each nested name (JLS 13.1).
abbrev pub internal_name : unit.Unit → ℕ → List ℕ
internal_name u i = binary (suc (length u.package)) (path u i)
