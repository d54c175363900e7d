-- When a site is one of a unit.
use Rattle.std.specs.Prelude.{◌+◌, ◌<◌, ◌^◌, All, length, Some}
use Rattle.java_units.specs.declared.types.Unit as unit
use Rattle.java_units.specs.UnitLaws.{IsNested}
use Rattle.java_units.specs.Dimensions.{dims_of_bounds, greatest, type_dims}
use Rattle.class_summary.specs.Variables.{IsMethodOf}
use Rattle.java_bodies.specs.declared.site.HoleSite.{HoleSite}

-- The classes stand after those around them, the site is at a method of one of them, and the dimensions of any one type
-- and of all bounds of type variables, added up, fit 64 bits. All this holds for a hole in a text.
pub record IsSiteOf (u : unit.Unit) (site : HoleSite) : Type 0 where
  pub nested : IsNested u.classes
  pub class : site.class < length u.classes
  pub method : IsMethodOf u.classes site.class (Some site.method)
  pub types : greatest type_dims u.classes + dims_of_bounds u.classes < 2 ^ 64
  pub wanted : site.wanted.dims + dims_of_bounds u.classes < 2 ^ 64
  pub locals : All (λ l. l.kind.dims + dims_of_bounds u.classes < 2 ^ 64) site.locals
