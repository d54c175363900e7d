use Rattle.std.proofs.Common.{◌≡◌, take}
use Rattle.std.specs.Prelude.{sum_by}
use Rattle.decl_index.specs.Refusals.{method_parts}
use Rattle.decl_index.proofs.refusals.parts_of_methods.Given as goal

abbrev pub invariant-loop-method : goal.invariant-loop-method
invariant-loop-method l = l.parts ≡ sum_by method_parts (take l.method-index l.methods)
