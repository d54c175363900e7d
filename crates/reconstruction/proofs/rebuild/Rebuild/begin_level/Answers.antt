use Rattle.std.proofs.Common.{◌≡◌, ◌+◌, refl, sym, subst, ◌∙◌}
use Rattle.terms.specs.Listing.{IsNextWeight, Skipped}
use Rattle.reconstruction.specs.Rebuilding.{Rebuilding}
use Rattle.reconstruction.proofs.Rounds.{none_left, next_weight_of}
use Rattle.reconstruction.proofs.Running.{running_begun, running_next, running_weight}
use Rattle.reconstruction.proofs.rebuild.Rebuild.begin_level.Goals as goal

pub invariant_of-self : goal.invariant_of-self
invariant_of-self c =
    let r = c.self.inside in
    running_begun r.tables r.arena r.from r.level c.in-Some.weight _ r.found.items (running_next r.tables r.arena r.from r.level _ _ r.found.items c.self.invariant c.next_weight.ensures.moved c.next_weight.ensures.counted)
    (running_weight r.tables r.arena r.from r.level c.in-Some.weight _ c.next_weight.new.self r.found.items c.as_slice-found.result.now c.self.invariant c.next_weight.ensures.moved c.next_weight.ensures.least c.as_slice-found.ensures.value c.in-Some.ensures.going c.in-Some.ensures.starting)

pub invariant_of-self-in-None : goal.invariant_of-self-in-None
invariant_of-self-in-None c = running_next c.self.inside.tables c.self.inside.arena c.self.inside.from c.self.inside.level _ _ c.self.inside.found.items c.self.invariant c.next_weight.ensures.moved c.next_weight.ensures.counted

pub returns-in-Some-clause-next : goal.returns-in-Some-clause-next
returns-in-Some-clause-next c =
    let r = c.self.inside in
    let k = c.in-Some.weight in
    let next : IsNextWeight r.tables.env r.from k = next_weight_of r.tables r.arena r.from r.level k _ r.found.items
    (running_weight r.tables r.arena r.from r.level k _ c.next_weight.new.self r.found.items c.as_slice-found.result.now c.self.invariant c.next_weight.ensures.moved c.next_weight.ensures.least c.as_slice-found.ensures.value c.in-Some.ensures.going c.in-Some.ensures.starting) in
    let P : Rebuilding → Type 0 = λ v. IsNextWeight v.progress.parts v.progress.from k × (k ≡ k) in
    subst P c.self.view_is (next, refl)

pub returns-in-None-clause-none_left : goal.returns-in-None-clause-none_left
returns-in-None-clause-none_left c =
    let r = c.self.inside in
    let none = c.in-None.ensures.none in
    let left : Skipped r.tables.env r.from (r.tables.env.limit + 1) = none_left r.tables r.arena r.from r.level _ _ r.found.items c.self.invariant.complete c.self.invariant.at c.self.invariant.on c.next_weight.ensures.moved (sym c.as_slice-found.ensures.value ∙ none.0) none.1 in
    let P : Rebuilding → Type 0 = λ v. Skipped v.progress.parts v.progress.from (v.progress.parts.limit + 1) × (r.level ≡ v.reached) in
    subst P c.self.view_is (left, refl)
