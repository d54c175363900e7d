-- What is kept of a class that a source text declares (JLS 8, 9).
use Rattle.std.specs.Prelude.{◌≡◌, ℕ, suc, ◌==◌, ◌&&◌, if◌then◌else◌, Bool, List, [], ◌∷◌, ◌++◌, map, drop, slice_get, codes, Option, Some, None, unwrap_or}
use Rattle.std.specs.List.{filter_map}
use Rattle.type_names.specs.Names.{object_name}
use Rattle.type_names.specs.declared.kinds.Base.{Base}
use Rattle.type_names.specs.declared.kinds.Base.TheVariants.{Byte, Char, Double, Float, Int, Long, Short, Boolean, Class}
use Rattle.type_names.specs.declared.kinds.Erased.{Erased}
use Rattle.java_units.specs.declared.types.TypeText.{TypeText}
use Rattle.java_units.specs.declared.types.Param.{Param}
use Rattle.java_units.specs.declared.types.SourceField.{SourceField}
use Rattle.java_units.specs.declared.types.SourceMethod.{SourceMethod}
use Rattle.java_units.specs.declared.types.SourceClass.{SourceClass}
use Rattle.java_units.specs.declared.types.ClassKind.{ClassKind}
use Rattle.java_units.specs.declared.types.ClassKind.TheVariants.{ClassDecl, InterfaceDecl, EnumDecl, RecordDecl, AnnotationDecl}
use Rattle.java_units.specs.declared.types.Unit as unit
use Rattle.java_units.specs.Members.{is_plain}
use Rattle.class_summary.specs.Sources.{internal_name}
use Rattle.class_summary.specs.Names.{denoted_type}
use Rattle.known_classes.specs.declared.summary.FieldSummary.{FieldSummary}
use Rattle.known_classes.specs.declared.summary.MethodSummary.{MethodSummary}
use Rattle.known_classes.specs.declared.summary.Nesting.{Nesting}
use Rattle.known_classes.specs.declared.summary.ClassSummary.{ClassSummary}

-- The class that a base is, if it is one.
abbrev pub class_in : Base → Option (List ℕ)
class_in Byte = None
class_in Char = None
class_in Double = None
class_in Float = None
class_in Int = None
class_in Long = None
class_in Short = None
class_in Boolean = None
class_in (Class name) = Some name

-- The class that an erased type is: none for a primitive and for an array.
abbrev pub class_of : Erased → Option (List ℕ)
class_of e = if e.dims == 0 then class_in e.base else None

-- The class that a super denotes at the class number i.
unfoldable pub super_of : unit.Unit → ℕ → List ClassSummary → TypeText → Option (List ℕ)
super_of u i known type = class_of (denoted_type u i None type known)

-- The first super of a class of this kind that names no superclass.
abbrev pub parent_of : ClassKind → List ℕ
parent_of ClassDecl = object_name
parent_of InterfaceDecl = object_name
parent_of EnumDecl = codes "java/lang/Enum"
parent_of RecordDecl = codes "java/lang/Record"
parent_of AnnotationDecl = object_name

-- What follows the interfaces.
abbrev pub last_supers : ClassKind → List (List ℕ)
last_supers ClassDecl = []
last_supers InterfaceDecl = []
last_supers EnumDecl = []
last_supers RecordDecl = []
last_supers AnnotationDecl = codes "java/lang/annotation/Annotation" ∷ []

abbrev pub named_parent : unit.Unit → ℕ → List ClassSummary → Option TypeText → Option (List ℕ)
named_parent u i known None = None
named_parent u i known (Some type) = super_of u i known type

-- Whether a superclass is named and counts: a class alone may name one (JLS 8.1.4).
abbrev pub names_super : SourceClass → Bool
names_super c = is_plain c.kind && c.names_parent

-- The first super goes by the kind: a class has the superclass that it names, where that is a class, and else
-- `java/lang/Object`; an enum has `java/lang/Enum`, a record `java/lang/Record`, the others `java/lang/Object`.
unfoldable pub first_super : unit.Unit → ℕ → List ClassSummary → SourceClass → List ℕ
first_super u i known c =
    if names_super c then unwrap_or (named_parent u i known (slice_get c.supers 0)) (parent_of c.kind) else parent_of c.kind

-- The interfaces that a class names.
abbrev pub interfaces : SourceClass → List TypeText
interfaces c = if c.names_parent then drop 1 c.supers else c.supers

-- The supers: the superclass, then each interface that is a class, then what the kind adds.
unfoldable pub supers_of : unit.Unit → ℕ → List ClassSummary → SourceClass → List (List ℕ)
supers_of u i known c = first_super u i known c ∷ (filter_map (super_of u i known) (interfaces c) ++ last_supers c.kind)

-- A field, with the type that its text denotes.
unfoldable pub field_of : unit.Unit → ℕ → List ClassSummary → SourceField → FieldSummary
field_of u i known f = record { name = f.name; flags = f.flags; kind = denoted_type u i None f.kind known }

-- The type of a parameter of the method number m.
unfoldable pub param_of : unit.Unit → ℕ → ℕ → List ClassSummary → Param → Erased
param_of u i m known p = denoted_type u i (Some m) p.kind known

abbrev pub result_of : unit.Unit → ℕ → ℕ → List ClassSummary → Option TypeText → Option Erased
result_of u i m known None = None
result_of u i m known (Some type) = Some (denoted_type u i (Some m) type known)

-- The method number m, with the types that its texts denote.
unfoldable pub method_of : unit.Unit → ℕ → List ClassSummary → ℕ → SourceMethod → MethodSummary
method_of u i known m s = record { name = s.name; flags = s.flags; params = map (param_of u i m known) s.params; result = result_of u i m known s.result }

-- The methods, numbered from m on.
unfoldable pub methods_from : unit.Unit → ℕ → List ClassSummary → ℕ → List SourceMethod → List MethodSummary
methods_from u i known m [] = []
methods_from u i known m (s ∷ ss) = method_of u i known m s ∷ methods_from u i known (suc m) ss

-- How a class stands in the class around it; a top-level class has no nesting.
abbrev pub nesting_of : unit.Unit → SourceClass → Option ℕ → Option Nesting
nesting_of u c None = None
nesting_of u c (Some o) = Some (record { outer = Some (internal_name u o); simple = Some c.name; flags = c.flags })

-- The summary of the class number i of a text: its internal name, flags and nesting, its supers, and all of its
-- fields and methods, the private ones too.
abbrev pub summary_at : unit.Unit → ℕ → List ClassSummary → SourceClass → ClassSummary
summary_at u i known c = record {
  name = internal_name u i;
  flags = c.flags;
  nesting = nesting_of u c c.outer;
  supers = supers_of u i known c;
  fields = map (field_of u i known) c.fields;
  methods = methods_from u i known 0 c.methods;
}

-- This is the summary of the class number i.
abbrev pub IsSourceSummary : unit.Unit → ℕ → List ClassSummary → ClassSummary → Type 0
IsSourceSummary u i known summary = (c : SourceClass) → slice_get u.classes i ≡ Some c → summary ≡ summary_at u i known c

-- A unit, with the classes known besides those of it.
pub record Source : Type 0 where
  pub unit : unit.Unit
  pub known : List ClassSummary

-- The summaries of these classes, which are numbered from i on.
unfoldable pub summaries_from : unit.Unit → List ClassSummary → ℕ → List SourceClass → List ClassSummary
summaries_from u known i [] = []
summaries_from u known i (c ∷ cs) = summary_at u i known c ∷ summaries_from u known (suc i) cs

-- The summaries of all classes of a text, in their order.
abbrev pub summaries_of : unit.Unit → List ClassSummary → List ClassSummary
summaries_of u known = summaries_from u known 0 u.classes
