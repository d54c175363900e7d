-- What the name of a type denotes in a source text (JLS 4.6, 6.4.1, 6.5.5).
use Rattle.std.specs.Prelude.{ℕ, zero, suc, ◌-◌, ◌&&◌, ◌||◌, ◌==◌, not, if◌then◌else◌, Bool, true, false, List, [], ◌∷◌, ◌++◌, length, slice_get, codes, bytes_eq, Option, Some, None, unwrap_or}
use Rattle.std.specs.Option.{option_or}
use Rattle.type_names.specs.Names.{object_name}
use Rattle.type_names.specs.declared.kinds.Base.{Base}
use Rattle.type_names.specs.declared.kinds.Base.TheVariants.{Byte, Char, Double, Float, Int, Long, Short, Boolean, Class}
use Rattle.type_names.specs.declared.kinds.Erased.{Erased}
use Rattle.java_units.specs.declared.types.TypeText.{TypeText}
use Rattle.java_units.specs.declared.types.Import.{Import}
use Rattle.java_units.specs.declared.types.SourceClass.{SourceClass}
use Rattle.java_units.specs.declared.types.Unit as unit
use Rattle.known_classes.specs.Known.{class_named, class_by_canonical, canonical}
use Rattle.known_classes.specs.Nested.{same_text, nested_class}
use Rattle.class_summary.specs.Sources.{followed, joined, name_at, around, internal_name, canonical_name}
use Rattle.class_summary.specs.Variables.{End, end_of, scopes_at}
use Rattle.known_classes.specs.declared.summary.ClassSummary.{ClassSummary}
use Rattle.class_summary.specs.declared.rules.Denoted.{Denoted}
use Rattle.class_summary.specs.declared.rules.Denoted.TheVariants.{Own, Other}

-- A class that a name denotes is one of the text, by its number, or another, by its internal name.
abbrev pub internal_of : unit.Unit → Denoted → List ℕ
internal_of u (Own i) = internal_name u i
internal_of u (Other name) = name

abbrev pub canonical_of : unit.Unit → List ClassSummary → Denoted → List ℕ
canonical_of u known (Own i) = canonical_name u i
canonical_of u known (Other name) = canonical known name

abbrev pub own : Option ℕ → Option Denoted
own None = None
own (Some i) = Some (Own i)

abbrev pub other : Option ClassSummary → Option Denoted
other None = None
other (Some c) = Some (Other c.name)

-- The first of n numbers, from i on, that the test holds of.
unfoldable pub first_from : ℕ → ℕ → (ℕ → Bool) → Option ℕ
first_from zero i test = None
first_from (suc n) i test = if test i then Some i else first_from n (suc i) test

-- The first class of the text with this canonical name.
abbrev pub own_by_canonical : unit.Unit → List ℕ → Option ℕ
own_by_canonical u name = first_from (length u.classes) 0 (λ i. bytes_eq name (canonical_name u i))

-- The class with this canonical name, among those of the text and then the known ones.
unfoldable pub class_with : unit.Unit → List ClassSummary → List ℕ → Option Denoted
class_with u known name = option_or (own (own_by_canonical u name)) (other (class_by_canonical known known name))

abbrev pub same_number : Option ℕ → Option ℕ → Bool
same_number None None = true
same_number None (Some j) = false
same_number (Some i) None = false
same_number (Some i) (Some j) = i == j

-- Whether a class of the text has this name and stands directly in that class, or in none.
abbrev pub is_member : Option ℕ → List ℕ → SourceClass → Bool
is_member outer name c = same_number c.outer outer && bytes_eq name c.name

-- The first class of the text that has this name and stands directly in that class, or in none.
unfoldable pub member_from : ℕ → Option ℕ → List ℕ → List SourceClass → Option ℕ
member_from i outer name [] = None
member_from i outer name (c ∷ cs) = if is_member outer name c then Some i else member_from (suc i) outer name cs

abbrev pub member_named : Option ℕ → List ℕ → List SourceClass → Option ℕ
member_named outer name cs = member_from 0 outer name cs

-- From the innermost class outwards: that class, or one nested directly in it, by its name.
unfoldable pub enclosing : List SourceClass → List ℕ → List ℕ → Option ℕ
enclosing cs name [] = None
enclosing cs name (i ∷ is) =
    if bytes_eq name (name_at cs i) then Some i else option_or (member_named (Some i) name cs) (enclosing cs name is)

-- Whether an import without star ends with this name.
abbrev pub ends_with : List ℕ → Import → Bool
ends_with name m = not m.star && same_text (slice_get m.parts (length m.parts - 1)) name

-- The class with these parts as its canonical name, else the parts joined by `/`.
unfoldable pub spelled : unit.Unit → List ClassSummary → List (List ℕ) → Denoted
spelled u known parts = unwrap_or (class_with u known (joined (codes ".") parts)) (Other (joined (codes "/") parts))

abbrev pub spelled_by : unit.Unit → List ClassSummary → Option Import → Option Denoted
spelled_by u known None = None
spelled_by u known (Some m) = Some (spelled u known m.parts)

-- The first import without star that ends with this name.
unfoldable pub imported : List ℕ → List Import → Option Import
imported name [] = None
imported name (m ∷ ms) = if ends_with name m then Some m else imported name ms

abbrev pub if_known : Option ClassSummary → List ℕ → Option Denoted
if_known None name = None
if_known (Some c) name = Some (Other name)

-- The class of this internal name, where it is known.
abbrev pub known_as : List ClassSummary → List ℕ → Option Denoted
known_as known name = if_known (class_named known name) name

abbrev pub nested_below : unit.Unit → List ClassSummary → List ℕ → Option Denoted → Option Denoted
nested_below u known name None = None
nested_below u known name (Some class) = other (nested_class (internal_of u class) name known)

-- The known class of this name that an import with star has: one whose package has these parts, else one nested
-- directly in the class with that canonical name.
unfoldable pub below : unit.Unit → List ClassSummary → List ℕ → List (List ℕ) → Option Denoted
below u known name parts =
    option_or (known_as known (joined (codes "/") (parts ++ name ∷ []))) (nested_below u known name (class_with u known (joined (codes ".") parts)))

abbrev pub below_star : unit.Unit → List ClassSummary → List ℕ → Import → Option Denoted
below_star u known name m = if m.star then below u known name m.parts else None

-- The class of this name in the first import with star that has one.
unfoldable pub starred : unit.Unit → List ClassSummary → List ℕ → List Import → Option Denoted
starred u known name [] = None
starred u known name (m ∷ ms) = option_or (below_star u known name m) (starred u known name ms)

-- `java/lang/NAME`, where it is known or the name is `Object` or `String`.
unfoldable pub of_java_lang : List ClassSummary → List ℕ → Option Denoted
of_java_lang known name =
    if bytes_eq name (codes "Object") || bytes_eq name (codes "String") then Some (Other (codes "java/lang/" ++ name))
    else known_as known (codes "java/lang/" ++ name)

-- The internal name that this name has in the text's package.
abbrev pub in_package : unit.Unit → List ℕ → List ℕ
in_package u name = joined (codes "/") (u.package ++ name ∷ [])

-- A class of the text by its simple name: an enclosing class or a member of one, else a top-level class.
abbrev pub own_class : unit.Unit → ℕ → List ℕ → Option ℕ
own_class u i name = option_or (enclosing u.classes name (around u.classes i)) (member_named None name u.classes)

-- A class that the text doesn't declare, by its simple name: one imported by name; a known one of the package, of an
-- import with star, or of `java.lang`.
unfoldable pub named_class : unit.Unit → List ClassSummary → List ℕ → Option Denoted
named_class u known name =
    option_or (spelled_by u known (imported name u.imports)) (option_or (known_as known (in_package u name)) (option_or (starred u known name u.imports) (of_java_lang known name)))

-- A class by its simple name at the class number i: one of the text, else one that it names.
unfoldable pub simple_class : unit.Unit → ℕ → List ClassSummary → List ℕ → Option Denoted
simple_class u i known name = option_or (own (own_class u i name)) (named_class u known name)

-- A name of further parts behind that of a class: the class with the canonical name of that class and those parts,
-- else its internal name with `$` before each further part.
unfoldable pub member_class : unit.Unit → List ClassSummary → Denoted → List (List ℕ) → Denoted
member_class u known class rest =
    unwrap_or (class_with u known (canonical_of u known class ++ followed (codes ".") rest)) (Other (internal_of u class ++ followed (codes "$") rest))

abbrev pub dotted_class : unit.Unit → List ClassSummary → Option Denoted → List (List ℕ) → List (List ℕ) → Denoted
dotted_class u known None rest parts = spelled u known parts
dotted_class u known (Some class) rest parts = member_class u known class rest

abbrev pub in_package_else : unit.Unit → List ℕ → Option Denoted → Denoted
in_package_else u name None = Other (in_package u name)
in_package_else u name (Some class) = class

-- The class that a name denotes at the class number i, where it is no type variable.
unfoldable pub class_of_name : unit.Unit → ℕ → List ClassSummary → List (List ℕ) → Denoted
class_of_name u i known [] = spelled u known []
class_of_name u i known (p ∷ []) = in_package_else u p (simple_class u i known p)
class_of_name u i known (p ∷ q ∷ ps) = dotted_class u known (simple_class u i known p) (q ∷ ps) (p ∷ q ∷ ps)

-- The primitive type that a word names (JLS 4.2).
unfoldable pub primitive : List ℕ → Option Base
primitive w =
    if bytes_eq w (codes "byte") then Some Byte
    else if bytes_eq w (codes "char") then Some Char
    else if bytes_eq w (codes "double") then Some Double
    else if bytes_eq w (codes "float") then Some Float
    else if bytes_eq w (codes "int") then Some Int
    else if bytes_eq w (codes "long") then Some Long
    else if bytes_eq w (codes "short") then Some Short
    else if bytes_eq w (codes "boolean") then Some Boolean
    else None

unfoldable pub primitive_of : List (List ℕ) → Option Base
primitive_of [] = None
primitive_of (p ∷ []) = primitive p
primitive_of (p ∷ q ∷ ps) = None

-- The erased type of a name that is no type variable, without its dimensions.
unfoldable pub base_of : unit.Unit → ℕ → List ClassSummary → Option (List (List ℕ)) → Base
base_of u i known None = Class object_name
base_of u i known (Some parts) = unwrap_or (primitive_of parts) (Class (internal_of u (class_of_name u i known parts)))

abbrev pub erased_end : unit.Unit → List ClassSummary → End → Erased
erased_end u known end = record { dims = end.dims; base = base_of u end.class known end.parts }

-- The erased type that a type of the text denotes at a class, or at a method of it (JLS 4.6): through the bounds
-- of type variables, and where they end by the rules for classes.
unfoldable pub denoted_type : unit.Unit → ℕ → Option ℕ → TypeText → List ClassSummary → Erased
denoted_type u class method type known = erased_end u known (end_of (scopes_at u.classes class method) class type)
