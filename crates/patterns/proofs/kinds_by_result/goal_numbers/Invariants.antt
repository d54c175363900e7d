use Rattle.std.proofs.Common.{◌≡◌, take, map, slice_get, Some}
use Rattle.patterns.proofs.kinds_by_result.goal_numbers.Given as goal

abbrev pub invariant-loop-kind : goal.invariant-loop-kind
invariant-loop-kind l = map (λ i. slice_get l.goals.keys i) l.numbers.items ≡ map (λ k. Some k.result) (take l.kind-index l.initial.kinds)
