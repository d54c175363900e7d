use Rattle.std.proofs.Common.{◌∙◌, ◌+◌, ◌^◌, ◌<◌, ap, sym, subst}
use Rattle.java_units.specs.UnitLaws.{IsNested}
use Rattle.java_units.specs.Dimensions.{dims_of_bounds, greatest, type_dims}
use Rattle.java_units.specs.declared.types.Unit as unit
use Rattle.class_summary.specs.SourceSummaries.{Source, summaries_of}
use Rattle.source_classes.proofs.source.Source.summaries.Goals as goal

pub summaries-requires : goal.summaries-requires
summaries-requires g c =
    let P : Source → Type 0 = λ s. IsNested s.unit.classes in
    let D : Source → Type 0 = λ s. greatest type_dims s.unit.classes + dims_of_bounds s.unit.classes < 2 ^ 64 in
    record {
      nested = subst P (sym c.in_ok-resolver.ensures.made) c.self.invariant.0;
      dims = subst D (sym c.in_ok-resolver.ensures.made) c.self.invariant.1;
    }

pub returns : goal.returns
returns g c =
    let known = g.C.Classes.listed c.args.known.now in
    c.in_ok-all.ensures.exact ∙ ap (λ (s : Source). summaries_of s.unit s.known) c.in_ok-resolver.ensures.made ∙ ap (λ (u : unit.Unit). summaries_of u known) c.self.view_is
