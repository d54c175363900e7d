use Rattle.std.proofs.Common.{◌<◌, ◌∙◌, length, map, sym, ap, subst}
use Rattle.number_places.proofs.NumberPlaces.{each-same}
use Rattle.patterns.specs.Worklist.{AreTargets, AreUses}
use Rattle.patterns.proofs.Used.{targets-in_range}
use Rattle.patterns.proofs.saturate.settle.Goals as goal

pub places_by_number-requires : goal.places_by_number-requires
places_by_number-requires c = record {
  in_range = λ i k at. subst (λ n. k < n) (sym c.len.ensures.len) (targets-in_range _ _ _ _ c.in_ok-uses.ensures.in_range (c.in_ok-targets.ensures.value ∙ ap (map (λ u. u.target)) c.as_slice.ensures.value) c.as_slice-2.ensures.value i k at);
}

pub look-requires : goal.look-requires
look-requires c = record {
  as_many = c.in_ok-first_round.ensures.as_many;
  used = subst (λ u. AreUses c.args.sets.now c.args.kinds.now.all.now c.args.states.now.keys u) (sym c.as_slice-3.ensures.value) c.in_ok-uses.ensures.used;
  targets = subst (λ u. AreTargets (length c.args.states.now.keys) u) (sym c.as_slice-3.ensures.value) c.in_ok-uses.ensures.in_range;
  grouped = each-same _ _ _ _ _ c.len.ensures.len (c.as_slice-2.ensures.value ∙ c.in_ok-targets.ensures.value ∙ ap (map (λ u. u.target)) (c.as_slice.ensures.value ∙ sym c.as_slice-3.ensures.value)) c.in_ok-groups.ensures.each;
  quiet = c.in_ok-first_round.ensures.quiet _;
}

pub returns-clause-sound : goal.returns-clause-sound
returns-clause-sound c before = c.in_ok-look.ensures.sound (c.in_ok-first_round.ensures.sound before)
