use Rattle.std.proofs.Common.{◌≡◌, ◌++◌, map, flat_map, slice_get}
use Rattle.std.specs.List.{range_with_len}
use Rattle.terms.specs.View.{expr}
use Rattle.plain_listing.specs.Generate.{headed}
use Rattle.plain_listing.specs.Reads.{here, deeper}
use Rattle.plain_listing.proofs.heads.push_heads.Given as goal

abbrev pub invariant-loop-n : goal.invariant-loop-n
invariant-loop-n l = map expr l.all ≡ map expr l.initial.all ++ flat_map (λ n. headed l.place.env.now (here l.place) (deeper l.place) l.weight l.wanted n (slice_get l.place.env.now.decls n)) (range_with_len 0 l.n)
