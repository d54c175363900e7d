use Rattle.std.proofs.Common.{◌≡◌, ◌++◌, take}
use Rattle.std.specs.List.{flat_map}
use Rattle.weight_bounds.specs.Relaxed.{parameters_of}
use Rattle.weight_bounds.proofs.parameters.add_parameters.Given as goal

abbrev pub invariant-loop-arg : goal.invariant-loop-arg
invariant-loop-arg l = l.types.items ≡ l.initial.types.items ++ flat_map parameters_of (take l.arg-index l.initial.args)
