-- The candidates of the offered classes.
use Rattle.std.specs.Prelude.{ℕ, Bool, true, false, ◌&&◌, ◌||◌, not, if◌then◌else◌, List, [], ◌∷◌, ◌++◌, map, codes, bytes_eq, Option, Some, None}
use Rattle.std.specs.List.{filter}
use Rattle.type_names.specs.declared.kinds.Erased.{Erased}
use Rattle.type_names.specs.Descriptors.{method, outcome}
use Rattle.known_classes.specs.declared.summary.FieldSummary.{FieldSummary}
use Rattle.known_classes.specs.declared.summary.MethodSummary.{MethodSummary}
use Rattle.known_classes.specs.declared.summary.Nesting.{Nesting}
use Rattle.known_classes.specs.declared.summary.ClassSummary.{ClassSummary}
use Rattle.class_summary.specs.Flags.{has_flag}
use Rattle.offers.specs.declared.member.Kind.{Kind}
use Rattle.offers.specs.declared.member.Kind.TheVariants as kind
use Rattle.offers.specs.declared.member.Member.{Member}
use Rattle.offers.specs.Scenes.{Scene, edited, is_open, of_class, same_type}

-- Members are of one kind.
abbrev pub same_kind : Kind → Kind → Bool
same_kind kind.Field kind.Field = true
same_kind kind.Method kind.Method = true
same_kind kind.Constructor kind.Constructor = true
same_kind _ _ = false

-- The type of what a member gives: a constructor's is its class (JLS 15.9.3), and a method without result gives none.
abbrev pub value_by : Kind → Member → Option Erased
value_by kind.Constructor m = Some (of_class m.owner)
value_by _ m = m.result

abbrev pub value : Member → Option Erased
value m = value_by m.kind m

-- One type, or no value at all.
abbrev pub same_outcome : Option Erased → Option Erased → Bool
same_outcome None None = true
same_outcome (Some a) (Some b) = same_type a b
same_outcome _ _ = false

abbrev pub is_static : Member → Bool
is_static m = has_flag m.flags 0x0008 && not (same_kind m.kind kind.Constructor)

abbrev pub is_private : Member → Bool
is_private m = has_flag m.flags 0x0002

-- The key of a member's usage count: its owner, `.`, its name, `:` and its descriptor.
abbrev pub descriptor_by : Kind → Member → List ℕ
descriptor_by kind.Field m = outcome m.result
descriptor_by _ m = method (record { params = m.params; result = m.result })

abbrev pub key : Member → List ℕ
key m = m.owner ++ 46 ∷ m.name ++ 58 ∷ descriptor_by m.kind m

abbrev pub field_of : ClassSummary → FieldSummary → Member
field_of c f = record { owner = c.name; kind = kind.Field; name = f.name; flags = f.flags; params = []; result = Some f.kind }

abbrev pub method_of : ClassSummary → MethodSummary → Member
method_of c m = record { owner = c.name; kind = if bytes_eq m.name (codes "<init>") then kind.Constructor else kind.Method; name = m.name; flags = m.flags; params = m.params; result = m.result }

-- A class that `new` makes: neither ABSTRACT nor INTERFACE, and without nesting or STATIC.
abbrev pub is_static_in : Option Nesting → Bool
is_static_in None = true
is_static_in (Some n) = has_flag n.flags 0x0008

abbrev pub is_made : ClassSummary → Bool
is_made c = not (has_flag c.flags 0x0400 || has_flag c.flags 0x0200) && is_static_in c.nesting

-- Fields, methods with a result or without one, and constructors of a class that is made.
abbrev pub gives : ClassSummary → Member → Kind → Bool
gives c m kind.Field = true
gives c m kind.Method = not (bytes_eq m.name (codes "<clinit>"))
gives c m kind.Constructor = is_made c

-- Open, or of the edited class.
unfoldable pub is_candidate : Scene → ClassSummary → Member → Bool
is_candidate v c m = gives c m m.kind && (is_open v c.name m.flags || bytes_eq c.name (edited v))

-- Fields first, and then methods and constructors, each in the order of the class.
unfoldable pub candidates : Scene → ClassSummary → List Member
candidates v c = filter (is_candidate v c) (map (field_of c) c.fields ++ map (method_of c) c.methods)
