use Rattle.std.proofs.Common.{◌∙◌, ap, [], ◌^◌, rules}
use Rattle.java_units.specs.declared.types.Param.{Param}
use Rattle.java_units.specs.Dimensions.{dims_of_bounds}
use Rattle.class_summary.specs.SourceSummaries.{param_of}
use Rattle.class_summary.proofs.Greatest.{item_fits}
use Rattle.known_classes.proofs.KeptItems.{mapped_on, mapped_end}
use Rattle.class_summary.proofs.source.params_of.Goals as goal

pub param_of-requires : goal.param_of-requires
param_of-requires g c = record { nested = c.requires.nested; dims = item_fits (λ (x : Param). x.kind.dims) c.args.params.now c.loop-i.i c.index-params-i.result (dims_of_bounds c.args.unit.now.classes) (2 ^ 64) (search rules) c.index-params-i.is c.requires.dims }

pub loop-i-preserved : goal.loop-i-preserved
loop-i-preserved g c = mapped_on (param_of c.args.unit.now c.args.class c.args.method (g.C.Classes.listed c.args.known.now)) c.args.params.now c.loop-i.i c.index-params-i.result [] c.loop-i.kept c.push.new.self c.in_ok-param_of.field-0 (search rules) (c.in_ok-param_of.ensures ∙ ap (param_of c.args.unit.now c.args.class c.args.method (g.C.Classes.listed c.args.known.now)) c.index-params-i.is) c.in_ok-push.ensures.ok c.loop-i.invariant

pub returns : goal.returns
returns g c = mapped_end (param_of c.args.unit.now c.args.class c.args.method (g.C.Classes.listed c.args.known.now)) c.args.params.now c.loop-i.i [] c.loop-i.kept (search rules) c.loop-i.invariant
