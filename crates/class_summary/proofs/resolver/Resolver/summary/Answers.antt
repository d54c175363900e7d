use Rattle.std.proofs.Common.{◌≡◌, ◌∙◌, ◌+◌, ◌^◌, ◌<◌, ap, sym, subst, length, slice_get, Some}
use Rattle.java_units.specs.UnitLaws.{IsNested}
use Rattle.java_units.specs.Dimensions.{dims_of_bounds, greatest, type_dims}
use Rattle.class_summary.specs.SourceSummaries.{Source, summary_at}
use Rattle.class_summary.proofs.Greatest.{class_fits, class_is}
use Rattle.class_summary.proofs.resolver.Resolver.summary.Goals as goal

pub summary_at-requires : goal.summary_at-requires
summary_at-requires g c =
    let classes = c.self.inside.names.classes in
    let P : Source → Type 0 = λ s. IsNested s.unit.classes in
    let L : Source → Type 0 = λ s. c.args.class < length s.unit.classes in
    let D : Source → Type 0 = λ s. greatest type_dims s.unit.classes + dims_of_bounds s.unit.classes < 2 ^ 64 in
    record {
      nested = subst P (sym c.self.view_is) c.requires.nested;
      dims = class_fits type_dims classes c.classes.result.now c.args.class c.index-classes-class.result (dims_of_bounds classes) (2 ^ 64) c.classes.ensures (subst L (sym c.self.view_is) c.requires.class) c.index-classes-class.is (subst D (sym c.self.view_is) c.requires.dims);
    }

pub returns : goal.returns
returns g c =
    let known = g.C.Classes.listed c.self.inside.known.now in
    record {
      exact = λ d e.
          let at : slice_get c.self.inside.names.classes c.args.class ≡ Some d = ap (λ (s : Source). slice_get s.unit.classes c.args.class) c.self.view_is ∙ e in
          let is = class_is c.self.inside.names.classes c.classes.result.now c.args.class c.index-classes-class.result d c.classes.ensures c.index-classes-class.is at in
          c.in_ok-summary.ensures ∙ (ap (summary_at c.self.inside.names c.args.class known) is ∙ ap (λ (s : Source). summary_at s.unit c.args.class s.known d) c.self.view_is);
    }
