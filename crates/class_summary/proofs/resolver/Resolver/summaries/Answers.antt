use Rattle.std.proofs.Common.{◌≡◌, ◌∙◌, ◌+◌, ◌++◌, ◌^◌, ◌<◌, arith, ap, sym, subst, length, List}
use Rattle.java_units.specs.UnitLaws.{IsNested}
use Rattle.java_units.specs.Dimensions.{dims_of_bounds, greatest, type_dims}
use Rattle.java_units.specs.declared.types.SourceClass.{SourceClass}
use Rattle.known_classes.specs.declared.summary.ClassSummary.{ClassSummary}
use Rattle.class_summary.specs.SourceSummaries.{Source, summary_at, summaries_from, summaries_of}
use Rattle.class_summary.proofs.Greatest.{class_fits, summaries_on, summaries_end}
use Rattle.class_summary.proofs.resolver.Resolver.summaries.Goals as goal

pub summary_at-requires : goal.summary_at-requires
summary_at-requires g c =
    let classes = c.self.inside.names.classes in
    let P : Source → Type 0 = λ s. IsNested s.unit.classes in
    let D : Source → Type 0 = λ s. greatest type_dims s.unit.classes + dims_of_bounds s.unit.classes < 2 ^ 64 in
    let L : List SourceClass → Type 0 = λ r. c.loop-i.i < length r in
    record {
      nested = subst P (sym c.self.view_is) c.requires.nested;
      dims = class_fits type_dims classes c.classes-classes.result.now c.loop-i.i c.index-classes-i.result (dims_of_bounds classes) (2 ^ 64) c.classes-classes.ensures (subst L c.classes-classes.ensures c.loop-i-test.true) c.index-classes-i.is (subst D (sym c.self.view_is) c.requires.dims);
    }

pub loop-i-init : goal.loop-i-init
loop-i-init g c =
    let u = c.args.self.now.unit in
    let known = c.args.self.now.known in
    let is : c.classes-classes.result.now ≡ u.classes = c.classes-classes.ensures ∙ ap (λ (s : Source). s.unit.classes) c.self.view_is in
    ap (summaries_from u known 0) (sym is) ∙ ap (λ (r : List ClassSummary). r ++ summaries_from u known 0 c.classes-classes.result.now) (sym c.new-all.ensures)

pub loop-i-preserved : goal.loop-i-preserved
loop-i-preserved g c =
    let u = c.args.self.now.unit in
    let known = c.args.self.now.known in
    let class = c.index-classes-i.result in
    let is : c.in_ok-summary.summary ≡ summary_at u c.loop-i.i known class = c.in_ok-summary.ensures ∙ ap (λ (s : Source). summary_at s.unit c.loop-i.i s.known class) c.self.view_is in
    summaries_on u known c.classes-classes.result.now c.loop-i.i class (summaries_of u known) c.loop-i.all c.push.new.self c.in_ok-summary.summary c.loop-i-test.true c.index-classes-i.is is c.in_ok-push.ensures.ok c.loop-i.invariant

pub returns : goal.returns
returns g c =
    let u = c.args.self.now.unit in
    let known = c.args.self.now.known in
    record { exact = summaries_end u known c.classes-classes.result.now c.loop-i.i (summaries_of u known) c.loop-i.all (omega (arith, c.loop-i-test.false)) c.loop-i.invariant }
