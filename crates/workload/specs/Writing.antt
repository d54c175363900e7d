-- Which shapes can be written, and which are too big for it.
use Rattle.std.specs.Prelude.{◌≡◌, ℕ, ◌+◌, Bool, true, false, ◌||◌, nat_lt, List, length, IfSome, IsSomeAnd, IsSome}
use Rattle.std.specs.List.{AllByRecursion, list_any}
use Rattle.type_names.specs.Names.{is_internal}
use Rattle.class_shape.specs.declared.shapes.ClassShape.{ClassShape}
use Rattle.class_shape.specs.declared.shapes.MemberShape.{MemberShape}
use Rattle.class_shape.specs.declared.shapes.InnerRow.{InnerRow}
use Rattle.class_shape.specs.declared.shapes.MemberKind.{MemberKind}
use Rattle.class_shape.specs.declared.shapes.MemberKind.TheVariants.{Field, Method}
use Rattle.class_shape.specs.Shapes.{IsDescriptor}
use Rattle.workload.specs.Modified.{modified}
use Rattle.workload.specs.Needs.{Needed, class, text}
use Rattle.workload.specs.Layout.{pool_of}

abbrev pub IsInternal : List ℕ → Type 0
IsInternal name = is_internal true name ≡ true

-- The name and the descriptor are given, and the descriptor is one of its kind.
pub record IsWholeMember (kind : MemberKind) (m : MemberShape) : Type 0 where
  pub name : IsSome m.name
  pub descriptor : IsSomeAnd m.descriptor (λ t. IsDescriptor kind t)

pub record IsWholeRow (r : InnerRow) : Type 0 where
  pub inner : IsInternal r.inner
  pub outer : IfSome r.outer IsInternal

-- The names and descriptors of a shape are all given, and well formed.
pub record IsWhole (s : ClassShape) : Type 0 where
  pub name : IsInternal s.name
  pub parent : IfSome s.parent IsInternal
  pub interfaces : AllByRecursion IsInternal s.interfaces
  pub fields : AllByRecursion (IsWholeMember Field) s.fields
  pub methods : AllByRecursion (IsWholeMember Method) s.methods
  pub inner : AllByRecursion IsWholeRow s.inner

-- More than two bytes can count.
abbrev pub is_long : ℕ → Bool
is_long n = nat_lt 65535 n

abbrev pub is_long_text : Needed → Bool
is_long_text (class name) = false
is_long_text (text t) = is_long (length (modified t))

-- The count of the pool, the length of a list or that of a text of the pool is more than two bytes can count.
abbrev pub has_long_list : ClassShape → Bool
has_long_list s = is_long (length s.interfaces) || (is_long (length s.fields) || (is_long (length s.methods) || is_long (length s.inner)))

abbrev pub has_long_pool : List Needed → Bool
has_long_pool pool = is_long (length pool + 1) || list_any is_long_text pool

abbrev pub is_too_big : ClassShape → Bool
is_too_big s = has_long_list s || has_long_pool (pool_of s)
