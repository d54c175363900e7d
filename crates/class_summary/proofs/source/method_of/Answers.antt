use Rattle.std.proofs.Common.{◌^◌, arith}
use Rattle.java_units.specs.declared.types.Param.{Param}
use Rattle.java_units.specs.Dimensions.{dims_of_bounds, method_dims}
use Rattle.class_summary.proofs.Greatest.{same_fits}
use Rattle.class_summary.proofs.source.method_of.Goals as goal

pub params_of-requires : goal.params_of-requires
params_of-requires g c = record { nested = c.requires.nested; dims = same_fits (λ (x : Param). x.kind.dims) c.args.method.now.params c.as_slice.result.now (method_dims c.args.method.now) (dims_of_bounds c.args.unit.now.classes) (2 ^ 64) c.as_slice.ensures (omega arith) c.requires.dims }

pub result_of-requires : goal.result_of-requires
result_of-requires g c = record { nested = c.requires.nested; dims = omega (arith, c.requires.dims) }
