-- What a class is made of: flags, methods, fields and supers.
use Rattle.std.specs.Prelude.{ℕ, ◌+◌, Bool, true, false, ◌&&◌, ◌||◌, not, List, [], ◌∷◌, drop, if◌then◌else◌, codes, Option, Some, None}
use Rattle.std.specs.List.{list_any}
use Rattle.java_units.specs.Signs.{Sign}
use Rattle.java_units.specs.Forms.{begins, starts, lead_len}
use Rattle.java_units.specs.Pieces.{head, end, bare, result_len, past_vars, form_of}
use Rattle.java_units.specs.Values.{first_text, type_text, vars_of, params_of, fields_of}
use Rattle.java_units.specs.declared.pieces.Form.{Form}
use Rattle.java_units.specs.declared.pieces.Form.TheVariants as form
use Rattle.java_units.specs.declared.access.Modifiers.{Modifiers}
use Rattle.java_units.specs.declared.types.TypeText.{TypeText}
use Rattle.java_units.specs.declared.types.SourceField.{SourceField}
use Rattle.java_units.specs.declared.types.SourceMethod.{SourceMethod}
use Rattle.java_units.specs.declared.types.ClassKind.{ClassKind}
use Rattle.java_units.specs.declared.types.ClassKind.TheVariants.{ClassDecl, InterfaceDecl, EnumDecl, RecordDecl, AnnotationDecl}

-- The modifiers that set flags, of those at the front of a head.
unfoldable pub modifiers_at : List (List Sign) → Modifiers
modifiers_at xs = record {
  is_public = list_any (begins (codes "public")) xs;
  is_private = list_any (begins (codes "private")) xs;
  is_protected = list_any (begins (codes "protected")) xs;
  is_static = list_any (begins (codes "static")) xs;
  is_abstract = list_any (begins (codes "abstract")) xs;
}

unfoldable pub modifiers_of : List Sign → Modifiers
modifiers_of ss = modifiers_at (starts lead_len 0 (head ss))

-- A flag that is set or not.
unfoldable pub bit : Bool → ℕ → ℕ
bit b flag = if b then flag else 0

-- The flags of JVMS 4.1, 4.5, 4.6, 4.7.6: PUBLIC, PRIVATE, PROTECTED, STATIC, ABSTRACT.
unfoldable pub flags_of : Modifiers → ℕ
flags_of m = (((bit m.is_public 0x0001 + bit m.is_private 0x0002) + bit m.is_protected 0x0004) + bit m.is_static 0x0008) + bit m.is_abstract 0x0400

abbrev pub is_interface : ClassKind → Bool
is_interface ClassDecl = false
is_interface InterfaceDecl = true
is_interface EnumDecl = false
is_interface RecordDecl = false
is_interface AnnotationDecl = true

abbrev pub is_enum : ClassKind → Bool
is_enum ClassDecl = false
is_enum InterfaceDecl = false
is_enum EnumDecl = true
is_enum RecordDecl = false
is_enum AnnotationDecl = false

abbrev pub is_plain : ClassKind → Bool
is_plain ClassDecl = true
is_plain InterfaceDecl = false
is_plain EnumDecl = false
is_plain RecordDecl = false
is_plain AnnotationDecl = false

-- A member of a class of this kind: in an interface it is public, unless it is private.
unfoldable pub member : ClassKind → Modifiers → Modifiers
member around m = record m { is_public = m.is_public || (is_interface around && not m.is_private) }

-- A field, which is static in an interface.
unfoldable pub field_flags : ClassKind → Modifiers → ℕ
field_flags around m = flags_of (record (member around m) { is_static = m.is_static || is_interface around })

-- A method, which is abstract in an interface where it has no block and isn't static.
unfoldable pub method_flags : ClassKind → Bool → Modifiers → ℕ
method_flags around has_block m = flags_of (record (member around m) { is_abstract = m.is_abstract || (is_interface around && not (has_block || m.is_static)) })

-- A constructor, which is private in an enum, and in an interface public unless it is private.
unfoldable pub constructor_flags : ClassKind → Modifiers → ℕ
constructor_flags around m = flags_of (record (member around m) { is_private = m.is_private || is_enum around })

-- The modifiers of a class of this kind in another one, or in none: interfaces are abstract; all in an
-- interface and all but plain classes in a class are static; in an interface it is public, unless it is private.
unfoldable pub nested : Option ClassKind → ClassKind → Modifiers → Modifiers
nested None kind m = record m { is_abstract = m.is_abstract || is_interface kind }
nested (Some around) kind m = record (member around m) { is_static = m.is_static || (is_interface around || not (is_plain kind)); is_abstract = m.is_abstract || is_interface kind }

-- INTERFACE beside these.
unfoldable pub class_flags : ClassKind → Modifiers → ℕ
class_flags kind m = flags_of m + bit (is_interface kind) 0x0200

-- The access of the class alone.
unfoldable pub access : Modifiers → Modifiers
access m = record m { is_static = false; is_abstract = false }

-- The number of the sign at the front.
unfoldable pub number_of : List Sign → ℕ
number_of [] = 0
number_of (s ∷ ss) = s.number

-- The number after a block's last token, from behind what it holds; so many tokens stand in the text.
unfoldable pub closed : ℕ → List Sign → ℕ
closed count [] = count
closed count (s ∷ ss) = s.number + 1

unfoldable pub held_len : List Sign → ℕ
held_len [] = 0
held_len (s ∷ ss) = s.holds

-- The range of the block that ends a piece, where one does, in tokens.
unfoldable pub body_of : ℕ → List Sign → Option (ℕ × ℕ)
body_of count e = if begins (codes "{") e then Some (number_of e, closed count (drop (held_len e) (drop 1 e))) else None

unfoldable pub result_of : List Sign → Option TypeText
result_of ss = if begins (codes "void") ss then None else Some (type_text 0 ss)

unfoldable pub method_of : ClassKind → ℕ → List Sign → SourceMethod
method_of around count ss = record {
  name = first_text (drop (result_len (past_vars (bare ss))) (past_vars (bare ss)));
  flags = method_flags around (begins (codes "{") (end ss)) (modifiers_of ss);
  vars = vars_of (bare ss);
  params = params_of (drop 1 (drop (result_len (past_vars (bare ss))) (past_vars (bare ss))));
  result = result_of (past_vars (bare ss));
  body = body_of count (end ss);
}

unfoldable pub constructor_of : ClassKind → ℕ → List Sign → SourceMethod
constructor_of around count ss = record {
  name = codes "<init>";
  flags = constructor_flags around (modifiers_of ss);
  vars = vars_of (bare ss);
  params = params_of (drop 1 (past_vars (bare ss)));
  result = None;
  body = body_of count (end ss);
}

-- The constructor without parameters that a plain class without one gets.
unfoldable pub default_constructor : Modifiers → SourceMethod
default_constructor m = record { name = codes "<init>"; flags = flags_of (access m); vars = []; params = []; result = None; body = None }

abbrev pub fields_by : Form → ClassKind → List Sign → List SourceField
fields_by form.Package around ss = []
fields_by form.Import around ss = []
fields_by form.Class around ss = []
fields_by form.Constructor around ss = []
fields_by form.Method around ss = []
fields_by form.Field around ss = fields_of (field_flags around (modifiers_of ss)) (bare ss)
fields_by form.Nothing around ss = []

-- The fields that a piece of a class of this kind and name declares.
unfoldable pub fields_in : ClassKind → List ℕ → List Sign → List SourceField
fields_in around name ss = fields_by (form_of name ss) around ss

abbrev pub methods_by : Form → ClassKind → ℕ → List Sign → List SourceMethod
methods_by form.Package around count ss = []
methods_by form.Import around count ss = []
methods_by form.Class around count ss = []
methods_by form.Constructor around count ss = constructor_of around count ss ∷ []
methods_by form.Method around count ss = method_of around count ss ∷ []
methods_by form.Field around count ss = []
methods_by form.Nothing around count ss = []

-- The methods that it declares.
unfoldable pub methods_in : ClassKind → List ℕ → ℕ → List Sign → List SourceMethod
methods_in around name count ss = methods_by (form_of name ss) around count ss

abbrev pub constructs : Form → Bool
constructs form.Package = false
constructs form.Import = false
constructs form.Class = false
constructs form.Constructor = true
constructs form.Method = false
constructs form.Field = false
constructs form.Nothing = false

unfoldable pub has_constructor : List ℕ → List Sign → Bool
has_constructor name ss = constructs (form_of name ss)
