use Rattle.std.proofs.Common.{◌^◌, arith}
use Rattle.java_units.specs.declared.types.SourceField.{SourceField}
use Rattle.java_units.specs.Dimensions.{dims_of_bounds, type_dims, method_dims}
use Rattle.class_summary.proofs.Greatest.{same_fits}
use Rattle.class_summary.proofs.source.summary_at.Goals as goal

pub supers_of-requires : goal.supers_of-requires
supers_of-requires g c = record { nested = c.requires.nested; dims = omega (arith, c.requires.dims) }

pub fields_of-requires : goal.fields_of-requires
fields_of-requires g c = record { nested = c.requires.nested; dims = same_fits (λ (x : SourceField). x.kind.dims) c.args.declared.now.fields c.as_slice.result.now (type_dims c.args.declared.now) (dims_of_bounds c.args.unit.now.classes) (2 ^ 64) c.as_slice.ensures (omega arith) c.requires.dims }

pub methods_of-requires : goal.methods_of-requires
methods_of-requires g c = record { nested = c.requires.nested; dims = same_fits method_dims c.args.declared.now.methods c.as_slice-2.result.now (type_dims c.args.declared.now) (dims_of_bounds c.args.unit.now.classes) (2 ^ 64) c.as_slice-2.ensures (omega arith) c.requires.dims }
