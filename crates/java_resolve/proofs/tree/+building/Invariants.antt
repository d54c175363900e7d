use Rattle.std.proofs.Common.{◌≡◌, map, take}
use Rattle.terms.specs.View.{arg}
use Rattle.java_resolve.specs.Trees.{tree_arg_view}
use Rattle.java_resolve.proofs.tree.+building.Given as goal

abbrev pub invariant-args_of-loop-arg : goal.invariant-args_of-loop-arg
invariant-args_of-loop-arg l = map arg l.copies ≡ map tree_arg_view (take l.arg-index l.args)
