-- The unit of a text.
use Rattle.std.specs.Prelude.{◌≡◌, ◌≢◌, ℕ, suc, ◌+◌, Bool, true, false, ◌&&◌, not, ◌==◌, List, [], ◌∷◌, ◌++◌, length, take, drop, if◌then◌else◌, codes, Option, Some, None}
use Rattle.std.specs.List.{flat_map, list_any}
use Rattle.java_tokens.specs.declared.token.Token.{Token}
use Rattle.java_units.specs.Signs.{Sign, signs_of}
use Rattle.java_units.specs.Forms.{begins, starts, name_len, clause_len, up_to}
use Rattle.java_units.specs.Pieces.{end, held, bare, pieces, piece_len, kind_len, named_len, header_len, star_len, form_of}
use Rattle.java_units.specs.Values.{first_text, parts_of, type_text, vars_of, types_of}
use Rattle.java_units.specs.Members.{modifiers_of, is_interface, is_enum, is_plain, nested, class_flags, fields_in, methods_in, has_constructor, default_constructor}
use Rattle.java_units.specs.declared.access.Modifiers.{Modifiers}
use Rattle.java_units.specs.declared.class.Around.{Around}
use Rattle.java_units.specs.declared.pieces.Form.{Form}
use Rattle.java_units.specs.declared.pieces.Form.TheVariants as form
use Rattle.java_units.specs.declared.types.TypeText.{TypeText}
use Rattle.java_units.specs.declared.types.SourceMethod.{SourceMethod}
use Rattle.java_units.specs.declared.types.SourceClass.{SourceClass}
use Rattle.java_units.specs.declared.types.Import.{Import}
use Rattle.java_units.specs.declared.types.Unit as unit
use Rattle.java_units.specs.declared.types.ClassKind.{ClassKind}
use Rattle.java_units.specs.declared.types.ClassKind.TheVariants.{ClassDecl, InterfaceDecl, EnumDecl, RecordDecl, AnnotationDecl}

-- How a class is declared.
unfoldable pub kind_of : List Sign → ClassKind
kind_of h =
    if begins (codes "class") h then ClassDecl
    else if begins (codes "interface") h then InterfaceDecl
    else if begins (codes "enum") h then EnumDecl
    else if begins (codes "record") h then RecordDecl
    else AnnotationDecl

-- The superclass that these lists of types name: the first type after the first `extends`.
unfoldable pub parent_of : List (List Sign) → List TypeText
parent_of [] = []
parent_of (x ∷ xs) = if begins (codes "extends") x then type_text 0 (drop 1 x) ∷ [] else parent_of xs

-- The types that a class extends and implements: a plain class its superclass first, an interface all of
-- them, enums and records those after `implements`.
unfoldable pub supers_of : ClassKind → List (List Sign) → List TypeText
supers_of kind xs =
    if is_plain kind then parent_of xs ++ flat_map (types_of (codes "implements" ∷ [])) xs
    else if is_interface kind then flat_map (types_of (codes "extends" ∷ codes "implements" ∷ [])) xs
    else flat_map (types_of (codes "implements" ∷ [])) xs

-- Whether the first of the supers is a superclass that the class names.
unfoldable pub names_parent : ClassKind → List (List Sign) → Bool
names_parent kind xs = is_plain kind && list_any (begins (codes "extends")) xs

-- What the block of a class holds; of an enum, what follows the first `;` outside brackets.
unfoldable pub body_in : ClassKind → List Sign → List Sign
body_in kind b = if is_enum kind then drop 1 (drop (up_to (codes ";") 0 b) b) else b

unfoldable pub members_of : ClassKind → List Sign → List Sign
members_of kind ss = body_in kind (held (end ss))

abbrev pub number_in : Option Around → Option ℕ
number_in None = None
number_in (Some a) = Some a.number

abbrev pub kind_in : Option Around → Option ClassKind
kind_in None = None
kind_in (Some a) = Some a.kind

-- The methods of a class, with the constructor that a plain class gets.
unfoldable pub methods_of : ClassKind → List ℕ → ℕ → Modifiers → List (List Sign) → List SourceMethod
methods_of kind name count m ps =
    flat_map (methods_in kind name count) ps
    ++ (if is_plain kind && not (list_any (has_constructor name) ps) then default_constructor m ∷ [] else [])

-- A class of this kind and name, with these modifiers and pieces, by the head of its piece.
unfoldable pub class_by : Option Around → ℕ → List Sign → ClassKind → List ℕ → Modifiers → List (List Sign) → SourceClass
class_by around count h kind name m ps = record {
  name = name;
  outer = number_in around;
  kind = kind;
  flags = class_flags kind m;
  vars = vars_of (drop (named_len h) h);
  supers = supers_of kind (starts clause_len 0 (drop (header_len h) h));
  names_parent = names_parent kind (starts clause_len 0 (drop (header_len h) h));
  fields = flat_map (fields_in kind name) ps;
  methods = methods_of kind name count m ps;
}

-- The class that a piece of its form declares, in that class or in none.
unfoldable pub class_of : Option Around → ℕ → List Sign → SourceClass
class_of around count ss =
    class_by around count (bare ss) (kind_of (bare ss)) (first_text (drop (kind_len (bare ss)) (bare ss)))
    (nested (kind_in around) (kind_of (bare ss)) (modifiers_of ss)) (pieces (members_of (kind_of (bare ss)) ss))

abbrev pub declares : Form → Bool
declares form.Package = false
declares form.Import = false
declares form.Class = true
declares form.Constructor = false
declares form.Method = false
declares form.Field = false
declares form.Nothing = false

abbrev pub packages : Form → Bool
packages form.Package = true
packages form.Import = false
packages form.Class = false
packages form.Constructor = false
packages form.Method = false
packages form.Field = false
packages form.Nothing = false

abbrev pub imports : Form → Bool
imports form.Package = false
imports form.Import = true
imports form.Class = false
imports form.Constructor = false
imports form.Method = false
imports form.Field = false
imports form.Nothing = false

-- Whether a piece is a class.
unfoldable pub is_class : List Sign → Bool
is_class ss = declares (form_of [] ss)

-- The first package that the pieces name.
unfoldable pub package_of : List (List Sign) → List (List ℕ)
package_of [] = []
package_of (x ∷ xs) = if packages (form_of [] x) then parts_of 0 (drop 1 (bare x)) else package_of xs

-- An import, from behind its word.
unfoldable pub import_of : List Sign → Import
import_of ss = record { parts = parts_of 0 (take (name_len ss) ss); star = not (star_len (drop (name_len ss) ss) == 0) }

unfoldable pub import_in : List Sign → List Import
import_in x = if imports (form_of [] x) then import_of (drop 1 (bare x)) ∷ [] else []

-- What a body holds of classes: nothing more, a piece that is none and the rest, or a class with its own
-- body and the rest.
pub data Body : Type 0 where
  none : Body
  plain : Body → Body
  class : SourceClass → Body → Body → Body

-- How many classes.
unfoldable pub size : Body → ℕ
size none = 0
size (plain more) = size more
size (class c inner more) = suc (size inner + size more)

-- The classes in the order of the text.
unfoldable pub listed : Body → List SourceClass
listed none = []
listed (plain more) = listed more
listed (class c inner more) = c ∷ (listed inner ++ listed more)

-- This is the body of these signs, in that class or in none; its first class has the number `next`, and
-- so many tokens stand in the text.
unfoldable pub IsBody : ℕ → Option Around → ℕ → List Sign → Body → Type 0
IsBody count around next ss none = ss ≡ []
IsBody count around next ss (plain more) =
    (ss ≢ []) × (is_class ss ≡ false) × IsBody count around next (drop (piece_len ss) ss) more
IsBody count around next ss (class c inner more) =
    (is_class ss ≡ true) × (c ≡ class_of around count ss)
    × IsBody count (Some (record { number = next; kind = c.kind })) (suc next) (members_of c.kind ss) inner
    × IsBody count around (suc next + size inner) (drop (piece_len ss) ss) more

-- These are the classes of a text with these signs and so many tokens.
pub record AreClasses (count : ℕ) (ss : List Sign) (classes : List SourceClass) : Type 0 where
  pub body : Body
  pub is : IsBody count None 0 ss body
  pub are : classes ≡ listed body

-- This is the unit of the text with these tokens.
pub record IsUnit (text : List ℕ) (tokens : List Token) (u : unit.Unit) : Type 0 where
  pub own_package : u.package ≡ package_of (pieces (signs_of text tokens))
  pub all_imports : u.imports ≡ flat_map import_in (pieces (signs_of text tokens))
  pub all_classes : AreClasses (length tokens) (signs_of text tokens) u.classes
