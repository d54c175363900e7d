use Rattle.std.proofs.Common.{◌∙◌, sym, ◌^◌, rules}
use Rattle.java_units.specs.declared.types.TypeText.{TypeText}
use Rattle.java_units.specs.Dimensions.{dims_of_bounds}
use Rattle.class_summary.specs.SourceSummaries.{super_of}
use Rattle.class_summary.proofs.Greatest.{item_fits}
use Rattle.known_classes.proofs.KeptItems.{kept_on, dropped_on, kept_end}
use Rattle.class_summary.proofs.source.classes_of.Goals as goal

pub super_of-requires : goal.super_of-requires
super_of-requires g c = record { nested = c.requires.nested; dims = item_fits (λ (x : TypeText). x.dims) c.args.supers.now c.loop-i.i c.index-supers-i.result (dims_of_bounds c.args.unit.now.classes) (2 ^ 64) (search rules) c.index-supers-i.is c.requires.dims }

pub loop-i-preserved : goal.loop-i-preserved
loop-i-preserved g c = kept_on (super_of c.args.unit.now c.args.class (g.C.Classes.listed c.args.known.now)) c.args.supers.now c.loop-i.i c.index-supers-i.result c.loop-i.names c.push.new.self c.in-Some.name (search rules) c.index-supers-i.is (sym c.in_ok-name.ensures ∙ c.in-Some.is) c.in_ok-push.ensures.ok c.loop-i.invariant

pub loop-i-preserved-in_default : goal.loop-i-preserved-in_default
loop-i-preserved-in_default g c = dropped_on (super_of c.args.unit.now c.args.class (g.C.Classes.listed c.args.known.now)) c.args.supers.now c.loop-i.i c.index-supers-i.result c.loop-i.names (search rules) c.index-supers-i.is (sym c.in_ok-name.ensures ∙ c.in_default.is) c.loop-i.invariant

pub returns : goal.returns
returns g c = kept_end (super_of c.args.unit.now c.args.class (g.C.Classes.listed c.args.known.now)) c.args.supers.now c.loop-i.i c.loop-i.names (search rules) c.loop-i.invariant
