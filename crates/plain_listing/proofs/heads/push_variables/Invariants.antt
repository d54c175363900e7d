use Rattle.std.proofs.Common.{◌≡◌, ◌++◌, map, flat_map, slice_get}
use Rattle.std.specs.List.{range_with_len}
use Rattle.terms.specs.View.{expr}
use Rattle.plain_listing.specs.Generate.{variable}
use Rattle.plain_listing.proofs.heads.push_variables.Given as goal

abbrev pub invariant-loop-n : goal.invariant-loop-n
invariant-loop-n l = map expr l.all ≡ map expr l.initial.all ++ flat_map (λ n. variable l.place.env.now l.weight l.wanted n (slice_get l.place.variables.now n)) (range_with_len 0 l.n)
