use Rattle.std.proofs.Common.{◌≡◌, ◌+◌, ◌<◌, ℕ, List, All, map, sym, ap, subst, ◌∙◌, arith}
use Rattle.terms.specs.Listing.{Progress}
use Rattle.terms.specs.View.{expr}
use Rattle.partial_terms.specs.Built.{AreTermsOf}
use Rattle.reconstruction.specs.Levelled.{with_held}
use Rattle.reconstruction.specs.Partial.{waiting}
use Rattle.reconstruction.specs.Rebuilding.{Rebuilding}
use Rattle.reconstruction.specs.Running.{IsRunning}
use Rattle.reconstruction.specs.Tabled.{front_of}
use Rattle.reconstruction.proofs.Rounds.{below_top}
use Rattle.reconstruction.proofs.Running.{running_given, given_next, all_unseen}
use Rattle.reconstruction.proofs.rebuild.Rebuild.advance.Goals as goal

pub overflow_add-self : goal.overflow_add-self
overflow_add-self c =
    let r = c.self.inside in
    let stands : r.level ≡ c.in-Some.weight = ap (λ (v : Rebuilding). v.reached) c.self.view_is ∙ c.make_level.ensures.reached ∙ c.in-Some.ensures.next.1 in
    let low = below_top r.tables r.level c.self.invariant.complete c.self.invariant.on.within in
    omega (arith, low, stands)

pub invariant_of-self : goal.invariant_of-self
invariant_of-self c =
    let r = c.self.inside in
    let stands : r.level ≡ c.in-Some.weight = ap (λ (v : Rebuilding). v.reached) c.self.view_is ∙ c.make_level.ensures.reached ∙ c.in-Some.ensures.next.1 in
    let so_far : record { parts = r.tables.env; from = r.from } ≡ c.args.self.now.progress = ap (λ (v : Rebuilding). v.progress) c.self.view_is ∙ c.make_level.ensures.same ∙ c.begin_level.ensures.same in
    let P : Rebuilding → Type 0 = λ v. All (λ q. v.reached < q.0) (waiting v) in
    let above : All (λ q. r.level < q.0) (with_held r.agenda.held r.agenda.queue) = all_unseen r.arena r.level r.agenda (subst P (sym c.self.view_is) c.in_ok-make_level.ensures.whole) in
    let up = c.in-Some.ensures.next.0.after in
    subst (λ n. IsRunning r.tables r.arena (n + 1) r.level r.agenda c.clear.new.self.items) stands (running_given r.tables r.arena r.from r.level r.agenda r.found.items c.clear.new.self.items c.self.invariant (omega (arith, up, stands, ap (λ (x : Progress). x.from) so_far)) above c.clear.ensures.items)

pub returns-clause-next : goal.returns-clause-next
returns-clause-next c =
    let r = c.self.inside in
    let stands : r.level ≡ c.in-Some.weight = ap (λ (v : Rebuilding). v.reached) c.self.view_is ∙ c.make_level.ensures.reached ∙ c.in-Some.ensures.next.1 in
    let so_far : record { parts = r.tables.env; from = r.from } ≡ c.args.self.now.progress = ap (λ (v : Rebuilding). v.progress) c.self.view_is ∙ c.make_level.ensures.same ∙ c.begin_level.ensures.same in
    let P : Rebuilding → Type 0 = λ v. All (λ q. v.reached < q.0) (waiting v) in
    let above : All (λ q. r.level < q.0) (with_held r.agenda.held r.agenda.queue) = all_unseen r.arena r.level r.agenda (subst P (sym c.self.view_is) c.in_ok-make_level.ensures.whole) in
    let made : AreTermsOf r.tables.env (map (front_of r.arena) r.found.items) (map expr c.in_ok-terms.terms) = subst (λ (l : List ℕ). AreTermsOf r.tables.env (map (front_of r.arena) l) (map expr c.in_ok-terms.terms)) c.as_slice-fronts.ensures.value c.in_ok-terms.ensures.terms in
    let after : Progress → Progress = λ x. record { parts = x.parts; from = c.in-Some.weight + 1 } in
    (given_next r.tables r.arena r.from r.level c.in-Some.weight r.agenda r.found.items c.in_ok-terms.terms c.args.self.now.progress c.self.invariant so_far stands c.in-Some.ensures.next.0 above made, ap after so_far)
