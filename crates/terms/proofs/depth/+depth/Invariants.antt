use Rattle.std.proofs.Common.{◌≡◌, drop}
use Rattle.terms.specs.View.{args_view}
use Rattle.terms.specs.Place.{args_shallow}
use Rattle.terms.proofs.depth.+depth.Given as goal

abbrev pub invariant-are_shallow-loop-arg : goal.invariant-are_shallow-loop-arg
invariant-are_shallow-loop-arg l = args_shallow l.left (args_view l.args) ≡ args_shallow l.left (args_view (drop l.arg-index l.args))
