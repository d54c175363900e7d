use Rattle.std.proofs.Common.{rules, ◌≡◌, ◌<◌, ◌+◌, ◌++◌, ◌∙◌, [], length, map, refl, ap, subst, arith}
use Rattle.std.proofs.lemmas.List.{nil_from_length}
use Rattle.listing.specs.Found.{Growth, IsWithin, item_of}
use Rattle.listing.proofs.Keeping.{kept_sorted_at, kept_settled_at, within_settled_at, grown_at, begun_settled}
use Rattle.listing.proofs.growth.Growing.settle.Goals as goal

pub invariant_of-self : goal.invariant_of-self
invariant_of-self g c =
    let s = c.self.inside in
    let made : s.waiting ≡ [] = nil_from_length s.waiting (ap (λ (x : Growth). x.waiting) c.self.view_is ∙ c.requires.made) in (
      kept_sorted_at (g.E.Levels.progress s.levels) s.found.items s.found.items s.waiting s.keyed.items c.put_in_order.new.level.items s.weight s.below s.at_end made refl c.put_in_order.ensures.same c.self.invariant.0,
      c.self.invariant.1,
    )

pub invariant_of-self-in_err-reserve : goal.invariant_of-self-in_err-reserve
invariant_of-self-in_err-reserve g c =
    let s = c.self.inside in
    let made : s.waiting ≡ [] = nil_from_length s.waiting (ap (λ (x : Growth). x.waiting) c.self.view_is ∙ c.requires.made) in (
      kept_sorted_at (g.E.Levels.progress s.levels) s.found.items c.reserve.new.self.items s.waiting s.keyed.items c.put_in_order.new.level.items s.weight s.below s.at_end made c.reserve.ensures.items c.put_in_order.ensures.same c.self.invariant.0,
      c.self.invariant.1,
    )

pub invariant_of-self-2 : goal.invariant_of-self-2
invariant_of-self-2 g c =
    let s = c.self.inside in
    let ls = c.put_in_order.new.level.items in
    let made : s.waiting ≡ [] = nil_from_length s.waiting (ap (λ (x : Growth). x.waiting) c.self.view_is ∙ c.requires.made) in
    let some : 0 < length s.keyed.items = omega (arith, ap (λ (x : Growth). x.keyed) c.self.view_is, c.requires.some) in
    let whole : c.move_items.new.found.items ≡ s.found.items ++ map item_of ls = search rules in
    let empty : c.replace-level.new.dest.items ≡ [] = search rules in
    let room : length s.found.items + length ls < 4611686018427387904 = omega (arith, ap length c.as_slice.ensures.value, ap length c.as_slice-more.ensures.value, c.if-as_slice-more.false) in (
      kept_settled_at (g.E.Levels.progress s.levels) s.found.items c.move_items.new.found.items s.waiting s.keyed.items ls c.replace-level.new.dest.items s.weight s.below s.at_end
          made c.put_in_order.ensures.same c.in_ok-put_in_order.ensures.sorted some room whole empty c.self.invariant.0,
      begun_settled (g.E.Levels.progress s.levels) s.found.items s.waiting s.keyed.items s.weight s.below (g.E.Levels.reached s.levels) s.at_end made some c.self.invariant.0 c.self.invariant.1,
    )

pub returns-clause-bound : goal.returns-clause-bound
returns-clause-bound g c =
    let s = c.self.inside in
    let ls = c.put_in_order.new.level.items in
    let made : s.waiting ≡ [] = nil_from_length s.waiting (ap (λ (x : Growth). x.waiting) c.self.view_is ∙ c.requires.made) in
    let some : 0 < length s.keyed.items = omega (arith, ap (λ (x : Growth). x.keyed) c.self.view_is, c.requires.some) in
    let whole : c.move_items.new.found.items ≡ s.found.items ++ map item_of ls = search rules in
    let grew = within_settled_at (g.E.Levels.progress s.levels) s.found.items c.move_items.new.found.items s.waiting s.keyed.items ls s.weight s.below s.at_end
    made c.put_in_order.ensures.same c.in_ok-put_in_order.ensures.sorted some whole c.self.invariant.0 in
    subst (λ (x : Growth). IsWithin (g.E.Levels.progress s.levels).parts x.listed.found c.move_items.new.found.items) c.self.view_is grew

pub returns-clause-grown : goal.returns-clause-grown
returns-clause-grown g c =
    let s = c.self.inside in
    let ls = c.put_in_order.new.level.items in
    let some : 0 < length s.keyed.items = omega (arith, ap (λ (x : Growth). x.keyed) c.self.view_is, c.requires.some) in
    let whole : c.move_items.new.found.items ≡ s.found.items ++ map item_of ls = search rules in
    subst (λ (x : Growth). length x.listed.found < length c.move_items.new.found.items) c.self.view_is (grown_at s.found.items c.move_items.new.found.items s.keyed.items ls c.put_in_order.ensures.same some whole)
