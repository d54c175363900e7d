use Rattle.std.proofs.Common.{◌^◌, rules}
use Rattle.java_units.specs.Dimensions.{dims_of_bounds, method_dims}
use Rattle.class_summary.specs.SourceSummaries.{methods_from}
use Rattle.class_summary.proofs.Greatest.{item_fits, methods_on, methods_end}
use Rattle.class_summary.proofs.source.methods_of.Goals as goal

pub method_of-requires : goal.method_of-requires
method_of-requires g c = record { nested = c.requires.nested; dims = item_fits method_dims c.args.methods.now c.loop-i.i c.index-methods-i.result (dims_of_bounds c.args.unit.now.classes) (2 ^ 64) (search rules) c.index-methods-i.is c.requires.dims }

pub loop-i-preserved : goal.loop-i-preserved
loop-i-preserved g c = methods_on c.args.unit.now c.args.class (g.C.Classes.listed c.args.known.now) c.args.methods.now c.loop-i.i c.index-methods-i.result (methods_from c.args.unit.now c.args.class (g.C.Classes.listed c.args.known.now) 0 c.args.methods.now) c.loop-i.kept c.push.new.self c.in_ok-method_of.field-0 (search rules) c.index-methods-i.is c.in_ok-method_of.ensures c.in_ok-push.ensures.ok c.loop-i.invariant

pub returns : goal.returns
returns g c = methods_end c.args.unit.now c.args.class (g.C.Classes.listed c.args.known.now) c.args.methods.now c.loop-i.i (methods_from c.args.unit.now c.args.class (g.C.Classes.listed c.args.known.now) 0 c.args.methods.now) c.loop-i.kept (search rules) c.loop-i.invariant
