-- The entries of the pool that a shape needs, in the order of its file.
use Rattle.std.specs.Prelude.{ℕ, Bool, false, if◌then◌else◌, List, [], ◌∷◌, ◌++◌, fold, Option, Some, None, ◌+◌, position}
use Rattle.std.specs.List.{flat_map, list_any}
use Rattle.std.specs.Str.{bytes_eq}
use Rattle.class_shape.specs.declared.shapes.ClassShape.{ClassShape}
use Rattle.class_shape.specs.declared.shapes.MemberShape.{MemberShape}
use Rattle.class_shape.specs.declared.shapes.InnerRow.{InnerRow}
use Rattle.class_shape.specs.Shapes.{inner_classes}

-- A Class entry of a name, or a Utf8 entry of a text.
pub data Needed : Type 0 where
  class : List ℕ → Needed
  text : List ℕ → Needed

-- A class needs its entry and its name.
abbrev pub class_needs : List ℕ → List Needed
class_needs name = class name ∷ text name ∷ []

abbrev pub text_needs : List ℕ → List Needed
text_needs t = text t ∷ []

abbrev pub optional : (List ℕ → List Needed) → Option (List ℕ) → List Needed
optional f None = []
optional f (Some t) = f t

abbrev pub member_needs : MemberShape → List Needed
member_needs m = optional text_needs m.name ++ optional text_needs m.descriptor

abbrev pub row_needs : InnerRow → List Needed
row_needs r = class_needs r.inner ++ (optional class_needs r.outer ++ optional text_needs r.name)

-- An `InnerClasses` stands only where there are rows.
abbrev pub inner_needs : List InnerRow → List Needed
inner_needs [] = []
inner_needs (r ∷ rs) = text inner_classes ∷ flat_map row_needs (r ∷ rs)

unfoldable pub needs : ClassShape → List Needed
needs s = class_needs s.name ++ (optional class_needs s.parent ++ (flat_map class_needs s.interfaces
    ++ (flat_map member_needs s.fields ++ (flat_map member_needs s.methods ++ inner_needs s.inner))))

abbrev pub same : Needed → Needed → Bool
same (class a) (class b) = bytes_eq a b
same (class a) (text b) = false
same (text a) (class b) = false
same (text a) (text b) = bytes_eq a b

-- An entry that the pool lacks goes last.
abbrev pub add : List Needed → Needed → List Needed
add pool n = if list_any (same n) pool then pool else pool ++ n ∷ []

-- Each entry once, where it is first needed.
unfoldable pub once : List Needed → List Needed
once ns = fold add [] ns

abbrev pub number : Option ℕ → ℕ
number None = 0
number (Some i) = i + 1

-- The place of an entry in the pool, from 1 on; 0 where it isn't there.
unfoldable pub place : List Needed → Needed → ℕ
place pool n = number (position (same n) pool)
