use Rattle.std.proofs.Common.{◌∙◌, ◌+◌, ◌^◌, ◌<◌, ap, sym, subst, ℕ, Option}
use Rattle.java_units.specs.UnitLaws.{IsNested}
use Rattle.java_units.specs.Dimensions.{dims_of_bounds}
use Rattle.class_summary.specs.Names.{denoted_type}
use Rattle.class_summary.specs.SourceSummaries.{Source}
use Rattle.class_summary.proofs.resolver.Resolver.resolve.Goals as goal

pub resolve_at-requires : goal.resolve_at-requires
resolve_at-requires g c =
    let P : Source → Type 0 = λ s. IsNested s.unit.classes in
    let Q : Source → Type 0 = λ s. c.args.name.now.dims + dims_of_bounds s.unit.classes < 2 ^ 64 in
    record { nested = subst P (sym c.self.view_is) c.requires.nested; dims = subst Q (sym c.self.view_is) c.requires.dims }

pub returns : goal.returns
returns g c =
    record {
      exact = c.in_ok-kind.ensures ∙ (ap (λ (m : Option ℕ). denoted_type c.self.inside.names c.args.class m c.args.name.now (g.C.Classes.listed c.self.inside.known.now)) c.wide.ensures ∙ ap (λ (s : Source). denoted_type s.unit c.args.class c.args.method c.args.name.now s.known) c.self.view_is);
    }
