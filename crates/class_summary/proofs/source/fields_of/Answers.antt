use Rattle.std.proofs.Common.{◌∙◌, ap, [], ◌^◌, rules}
use Rattle.java_units.specs.declared.types.SourceField.{SourceField}
use Rattle.java_units.specs.Dimensions.{dims_of_bounds}
use Rattle.class_summary.specs.SourceSummaries.{field_of}
use Rattle.class_summary.proofs.Greatest.{item_fits}
use Rattle.known_classes.proofs.KeptItems.{mapped_on, mapped_end}
use Rattle.class_summary.proofs.source.fields_of.Goals as goal

pub field_of-requires : goal.field_of-requires
field_of-requires g c = record { nested = c.requires.nested; dims = item_fits (λ (x : SourceField). x.kind.dims) c.args.fields.now c.loop-i.i c.index-fields-i.result (dims_of_bounds c.args.unit.now.classes) (2 ^ 64) (search rules) c.index-fields-i.is c.requires.dims }

pub loop-i-preserved : goal.loop-i-preserved
loop-i-preserved g c = mapped_on (field_of c.args.unit.now c.args.class (g.C.Classes.listed c.args.known.now)) c.args.fields.now c.loop-i.i c.index-fields-i.result [] c.loop-i.kept c.push.new.self c.in_ok-field_of.field-0 (search rules) (c.in_ok-field_of.ensures ∙ ap (field_of c.args.unit.now c.args.class (g.C.Classes.listed c.args.known.now)) c.index-fields-i.is) c.in_ok-push.ensures.ok c.loop-i.invariant

pub returns : goal.returns
returns g c = mapped_end (field_of c.args.unit.now c.args.class (g.C.Classes.listed c.args.known.now)) c.args.fields.now c.loop-i.i [] c.loop-i.kept (search rules) c.loop-i.invariant
