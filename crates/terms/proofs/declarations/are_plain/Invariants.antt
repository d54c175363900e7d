use Rattle.std.proofs.Common.{◌≡◌, drop}
use Rattle.terms.specs.Faults.{are_plain}
use Rattle.terms.proofs.declarations.are_plain.Given as goal

abbrev pub invariant-loop-arg : goal.invariant-loop-arg
invariant-loop-arg l = are_plain l.args ≡ are_plain (drop l.arg-index l.args)
