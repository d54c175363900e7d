use Rattle.std.proofs.Common.{◌≡◌, ◌-◌, ◌+◌, ◌*◌, map, length, flat_map}
use Rattle.std.specs.List.{range_with_len}
use Rattle.terms.specs.View.{args_view}
use Rattle.plain_listing.specs.Generate.{candidates, fills, firsts}
use Rattle.plain_listing.specs.Reads.{here, deeper}
use Rattle.plain_listing.proofs.fills.+fills.Given as goal

abbrev pub decreases-fills : goal.decreases-fills
decreases-fills l = 3 * length l.wanted.now

abbrev pub decreases-fills_from : goal.decreases-fills_from
decreases-fills_from l = 3 * length l.more.now + 2

abbrev pub decreases-push_split : goal.decreases-push_split
decreases-push_split l = 3 * length l.more.now + 1

abbrev pub invariant-fills_from-loop-k : goal.invariant-fills_from-loop-k
invariant-fills_from-loop-k l = map args_view l.all.items ≡ flat_map (λ k. firsts l.first (candidates l.place.env.now (here l.place) (deeper l.place) l.first k) (fills l.place.env.now (here l.place) (deeper l.place) l.more (l.weight - k))) (range_with_len 0 l.k)
