use Rattle.std.proofs.Common.{◌++◌, ℕ, List, All, subst}
use Rattle.reconstruction.specs.Partial.{AreDivided, IsCode, least_completion, waiting}
use Rattle.reconstruction.specs.Rebuilding.{Rebuilding}
use Rattle.partial_terms.specs.Search.{fronts}
use Rattle.reconstruction.proofs.Partials.{all_live, all_divided, all_codes}
use Rattle.reconstruction.proofs.rebuild.Rebuild.queued_items.Goals as goal

pub returns-clause-alive : goal.returns-clause-alive
returns-clause-alive c =
    let r = c.self.inside in
    let P : Rebuilding → Type 0 = λ v. All (λ (item : ℕ × List ℕ). least_completion v.progress.parts item.1 item.0) (waiting v) in
    subst P c.self.view_is (all_live r.tables r.arena _ r.agenda.held r.agenda.queue r.found.items c.self.invariant.complete c.self.invariant.at)

pub returns-clause-found : goal.returns-clause-found
returns-clause-found c =
    let r = c.self.inside in
    let P : Rebuilding → Type 0 = λ v. All (IsCode v.progress.parts v.reached) v.level in
    subst P c.self.view_is (all_codes r.tables r.arena r.from r.level _ r.found.items c.self.invariant.complete c.self.invariant.at c.self.invariant.on)

pub returns-clause-divided : goal.returns-clause-divided
returns-clause-divided c =
    let r = c.self.inside in
    let P : Rebuilding → Type 0 = λ v. AreDivided v.progress (fronts (waiting v) ++ v.level) in
    subst P c.self.view_is (all_divided r.tables r.arena r.from r.level r.agenda.held r.agenda.queue r.found.items c.self.invariant.at c.self.invariant.on.skipped)
