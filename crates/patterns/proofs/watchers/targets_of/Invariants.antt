use Rattle.std.proofs.Common.{◌≡◌, map, take}
use Rattle.patterns.proofs.watchers.targets_of.Given as goal

abbrev pub invariant-loop-one : goal.invariant-loop-one
invariant-loop-one l = l.targets.items ≡ map (λ u. u.target) (take l.one-index l.initial.uses)
