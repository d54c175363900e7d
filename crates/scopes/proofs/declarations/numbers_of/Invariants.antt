use Rattle.std.proofs.Common.{◌≡◌, map, take}
use Rattle.scopes.specs.Kinds.{type_number}
use Rattle.scopes.proofs.declarations.numbers_of.Given as goal

abbrev pub invariant-loop-kind : goal.invariant-loop-kind
invariant-loop-kind l = l.all ≡ map (type_number l.numbers) (take l.kind-index l.kinds)
