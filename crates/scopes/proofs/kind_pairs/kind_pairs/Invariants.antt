use Rattle.std.proofs.Common.{◌≡◌, map, take, None}
use Rattle.scopes.specs.Kinds.{number_in}
use Rattle.scopes.proofs.MovedPairs.{both}
use Rattle.scopes.proofs.kind_pairs.kind_pairs.Given as goal

abbrev pub invariant-loop-pair : goal.invariant-loop-pair
invariant-loop-pair l = l.all ≡ map (both (number_in l.numbers None)) (take l.pair-index l.pair-items)
