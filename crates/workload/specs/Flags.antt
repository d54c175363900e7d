-- Flags have two bytes, as their type says.
use Rattle.std.specs.Prelude.{◌<◌}
use Rattle.std.specs.List.{AllByRecursion}
use Rattle.class_shape.specs.declared.shapes.ClassShape.{ClassShape}
use Rattle.class_shape.specs.declared.shapes.MemberShape.{MemberShape}
use Rattle.class_shape.specs.declared.shapes.InnerRow.{InnerRow}

abbrev pub IsShortMember : MemberShape → Type 0
IsShortMember m = m.flags < 65536

abbrev pub IsShortRow : InnerRow → Type 0
IsShortRow r = r.flags < 65536

-- The flags of the members and rows of a shape.
pub record HasShortFlags (s : ClassShape) : Type 0 where
  pub fields : AllByRecursion IsShortMember s.fields
  pub methods : AllByRecursion IsShortMember s.methods
  pub inner : AllByRecursion IsShortRow s.inner
