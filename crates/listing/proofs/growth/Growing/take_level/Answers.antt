use Rattle.std.proofs.Common.{◌≡◌, ◌+◌, ◌∙◌, [], length, ap, arith}
use Rattle.std.proofs.lemmas.List.{nil_from_length}
use Rattle.listing.specs.Found.{Growth}
use Rattle.listing.proofs.Keeping.{kept_level_at, begun_level}
use Rattle.listing.proofs.growth.Growing.take_level.Goals as goal

pub invariant_of-self-in-Some : goal.invariant_of-self-in-Some
invariant_of-self-in-Some g c =
    let s = c.self.inside in
    let free : length s.waiting + length s.keyed.items ≡ 0 = ap (λ (x : Growth). x.waiting + x.keyed) c.self.view_is ∙ c.requires.free in
    let no_waiting : s.waiting ≡ [] = nil_from_length s.waiting (omega (arith, free)) in
    let no_keyed : s.keyed.items ≡ [] = nil_from_length s.keyed.items (omega (arith, free)) in
    let going_on = ap (λ (x : Growth). x.listed.at_end) c.self.view_is ∙ c.requires.going_on in
    let found = rw c.in-Some.is at c.in_ok-level.ensures.next in
    let begun = rw c.in-Some.is at c.in_ok-level.ensures.reached in (
      kept_level_at _ _ s.found.items s.waiting s.keyed.items s.weight s.below s.at_end c.in-Some.level no_waiting no_keyed going_on found.1 found.0 c.self.invariant.0,
      begun_level (g.E.Levels.progress s.levels) (g.E.Levels.progress c.next_level.new.self) s.found.items s.waiting s.keyed.items s.weight s.below (g.E.Levels.reached c.next_level.new.self) s.at_end c.in-Some.level
          no_waiting no_keyed found.1 begun found.0 c.self.invariant.0,
    )
