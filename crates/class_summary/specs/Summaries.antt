-- What is kept of a class file's class.
use Rattle.std.specs.Prelude.{ℕ, ◌||◌, if◌then◌else◌, Bool, List, [], ◌∷◌, bytes_eq, Option, Some, None}
use Rattle.std.specs.List.{filter_map}
use Rattle.type_names.specs.Reading.{field_in, method_in}
use Rattle.type_names.specs.declared.kinds.Erased.{Erased}
use Rattle.type_names.specs.declared.kinds.MethodKind.{MethodKind}
use Rattle.class_shape.specs.declared.shapes.ClassShape.{ClassShape}
use Rattle.class_shape.specs.declared.shapes.MemberShape.{MemberShape}
use Rattle.class_shape.specs.declared.shapes.InnerRow.{InnerRow}
use Rattle.class_summary.specs.Flags.{has_flag, private, bridge, synthetic, module_flag}
use Rattle.known_classes.specs.declared.summary.FieldSummary.{FieldSummary}
use Rattle.known_classes.specs.declared.summary.MethodSummary.{MethodSummary}
use Rattle.known_classes.specs.declared.summary.Nesting.{Nesting}
use Rattle.known_classes.specs.declared.summary.ClassSummary.{ClassSummary}

-- A field that is private or synthetic is dropped (JVMS 4.5).
abbrev pub drops_field : ℕ → Bool
drops_field flags = has_flag flags private || has_flag flags synthetic

-- A method that is private, synthetic or a bridge is dropped (JVMS 4.6).
abbrev pub drops_method : ℕ → Bool
drops_method flags = (has_flag flags private || has_flag flags synthetic) || has_flag flags bridge

-- The type that a descriptor names, where it was decoded and is one of a field (JVMS 4.3.2).
abbrev pub field_kind : Option (List ℕ) → Option Erased
field_kind None = None
field_kind (Some text) = field_in text

-- The types that a descriptor names, where it was decoded and is one of a method (JVMS 4.3.3).
abbrev pub method_kind : Option (List ℕ) → Option MethodKind
method_kind None = None
method_kind (Some text) = method_in text

-- A field with a name and a type.
abbrev pub field_with : ℕ → Option (List ℕ) → Option Erased → Option FieldSummary
field_with flags None kind = None
field_with flags (Some name) None = None
field_with flags (Some name) (Some kind) = Some (record { name = name; flags = flags; kind = kind })

-- A method with a name and types.
abbrev pub method_with : ℕ → Option (List ℕ) → Option MethodKind → Option MethodSummary
method_with flags None kind = None
method_with flags (Some name) None = None
method_with flags (Some name) (Some kind) = Some (record { name = name; flags = flags; params = kind.params; result = kind.result })

-- What is kept of a field: one that isn't dropped, whose name and descriptor were decoded.
unfoldable pub field_kept : MemberShape → Option FieldSummary
field_kept m = if drops_field m.flags then None else field_with m.flags m.name (field_kind m.descriptor)

-- What is kept of a method: one that isn't dropped, whose name and descriptor were decoded.
unfoldable pub method_kept : MemberShape → Option MethodSummary
method_kept m = if drops_method m.flags then None else method_with m.flags m.name (method_kind m.descriptor)

-- A class that is a module or synthetic keeps no member (JVMS 4.1).
abbrev pub drops_members : ℕ → Bool
drops_members flags = has_flag flags module_flag || has_flag flags synthetic

unfoldable pub fields_kept : ℕ → List MemberShape → List FieldSummary
fields_kept flags members = if drops_members flags then [] else filter_map field_kept members

unfoldable pub methods_kept : ℕ → List MemberShape → List MethodSummary
methods_kept flags members = if drops_members flags then [] else filter_map method_kept members

-- The super class, where there is one, and then the interfaces.
abbrev pub supers_kept : Option (List ℕ) → List (List ℕ) → List (List ℕ)
supers_kept None interfaces = interfaces
supers_kept (Some parent) interfaces = parent ∷ interfaces

-- What a row of `InnerClasses` says of its class.
abbrev pub said_by : InnerRow → Nesting
said_by r = record { outer = r.outer; simple = r.name; flags = r.flags }

-- The first row of `InnerClasses` that speaks of the class of this name (JVMS 4.7.6).
unfoldable pub nesting_in : List ℕ → List InnerRow → Option Nesting
nesting_in name [] = None
nesting_in name (r ∷ rs) =
    if bytes_eq name r.inner then Some (said_by r) else nesting_in name rs

-- What is kept of a class: its name and flags, its nesting, its supers and the members that aren't dropped.
abbrev pub summary_of : ClassShape → ClassSummary
summary_of s = record {
  name = s.name;
  flags = s.flags;
  nesting = nesting_in s.name s.inner;
  supers = supers_kept s.parent s.interfaces;
  fields = fields_kept s.flags s.fields;
  methods = methods_kept s.flags s.methods;
}
