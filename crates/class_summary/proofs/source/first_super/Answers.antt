use Rattle.std.proofs.Common.{◌∙◌, ◌^◌, ap, sym}
use Rattle.std.specs.Option.{option_copied}
use Rattle.java_units.specs.declared.types.TypeText.{TypeText}
use Rattle.java_units.specs.Dimensions.{dims_of_bounds}
use Rattle.class_summary.proofs.Greatest.{first_fits}
use Rattle.class_summary.proofs.source.first_super.Goals as goal

pub super_of-requires : goal.super_of-requires
super_of-requires g c = record { nested = c.requires.nested; dims = first_fits (λ (x : TypeText). x.dims) c.args.declared.now.supers c.in-Some.parent.now (dims_of_bounds c.args.unit.now.classes) (2 ^ 64) (sym c.get.ensures.value ∙ ap option_copied c.in-Some.is) c.requires.dims }
