use Rattle.std.proofs.Common.{◌≤◌, ◌-◌, ℕ, List, sym, subst, arith}
use Rattle.reconstruction.specs.Pending.{Pending}
use Rattle.reconstruction.specs.Rebuilding.{Rebuilding}
use Rattle.reconstruction.specs.Running.{IsRunning}
use Rattle.reconstruction.specs.Tabled.{IsHeld}
use Rattle.reconstruction.proofs.Holding.{whole_some}
use Rattle.reconstruction.proofs.Making.{parent_of, first_below}
use Rattle.reconstruction.proofs.Running.{running_next, running_taken, running_grown, running_kept, item_held, all_seen}
use Rattle.reconstruction.proofs.Seeking.{first_place}
use Rattle.reconstruction.proofs.rebuild.Rebuild.step.Goals as goal

pub invariant_of-self : goal.invariant_of-self
invariant_of-self c = running_next c.self.inside.tables c.self.inside.arena c.self.inside.from c.self.inside.level _ _ c.self.inside.found.items c.self.invariant c.next.ensures.moved c.next.ensures.counted

pub invariant_of-self-then-key-self : goal.invariant_of-self-then-key-self
invariant_of-self-then-key-self c = running_next c.self.inside.tables c.self.inside.arena c.self.inside.from c.self.inside.level _ _ c.self.inside.found.items c.self.invariant c.next.ensures.moved c.next.ensures.counted

pub invariant_of-self-in_err-push-in-None-first : goal.invariant_of-self-in_err-push-in-None-first
invariant_of-self-in_err-push-in-None-first c =
    let r = c.self.inside in
    let run : IsRunning r.tables r.arena r.from r.level c.next.new.self r.found.items = running_next r.tables r.arena r.from r.level _ _ r.found.items c.self.invariant c.next.ensures.moved c.next.ensures.counted in
    let P : List ℕ → Type 0 = λ l. IsRunning r.tables r.arena r.from r.level c.next.new.self l in
    subst P (sym c.in_err-push-in-None-first.ensures.items) run

pub returns-then-key-self-clause-whole : goal.returns-then-key-self-clause-whole
returns-then-key-self-clause-whole c =
    let r = c.self.inside in
    λ first. all_seen r.arena r.level c.next.new.self (whole_some c.next.new.self.held c.next.new.self.queue r.level c.in-Some.next c.in-Some.ensures.held c.if-key-self.true c.next.ensures.least)

pub first-requires : goal.first-requires
first-requires c =
    let r = c.self.inside in
    let run : IsRunning r.tables r.arena r.from r.level c.next.new.self r.found.items = running_next r.tables r.arena r.from r.level _ _ r.found.items c.self.invariant c.next.ensures.moved c.next.ensures.counted in
    let held : IsHeld r.tables r.arena c.in-Some.next.0 c.in-Some.next.1 = item_held r.tables r.arena r.from r.level c.in-Some.next.0 c.in-Some.next.1 c.next.new.self r.found.items run c.in-Some.ensures.held in
    record { in_range = held.stack_in }

pub invariant_of-self-in-None-first : goal.invariant_of-self-in-None-first
invariant_of-self-in-None-first c =
    let r = c.self.inside in
    let P : Rebuilding → Type 0 = λ v. v.progress.from ≤ v.reached in
    let begun : r.from ≤ r.level = subst P (sym c.self.view_is) c.requires.begun in
    let run : IsRunning r.tables r.arena r.from r.level c.next.new.self r.found.items = running_next r.tables r.arena r.from r.level _ _ r.found.items c.self.invariant c.next.ensures.moved c.next.ensures.counted in
    running_taken r.tables r.arena r.from r.level c.in-Some.next.0 c.in-Some.next.1 c.next.new.self _ r.found.items _ run begun c.in-Some.ensures.held (omega (arith, c.if-key-self.false)) c.in-None-first.ensures.none c.in_ok-push-in-None-first.ensures.items c.drop_held.ensures.taken

pub least_at-requires-clause-place : goal.least_at-requires-clause-place
least_at-requires-clause-place c =
    let r = c.self.inside in
    let run : IsRunning r.tables r.arena r.from r.level c.next.new.self r.found.items = running_next r.tables r.arena r.from r.level _ _ r.found.items c.self.invariant c.next.ensures.moved c.next.ensures.counted in
    let held : IsHeld r.tables r.arena c.in-Some.next.0 c.in-Some.next.1 = item_held r.tables r.arena r.from r.level c.in-Some.next.0 c.in-Some.next.1 c.next.new.self r.found.items run c.in-Some.ensures.held in
    first_place r.tables r.arena c.in-Some.next.0 c.in-Some-first.place c.in-Some-first.rest c.in-Some.next.1 held c.in-Some-first.ensures.some

pub overflow_sub-base : goal.overflow_sub-base
overflow_sub-base c =
    let r = c.self.inside in
    let run : IsRunning r.tables r.arena r.from r.level c.next.new.self r.found.items = running_next r.tables r.arena r.from r.level _ _ r.found.items c.self.invariant c.next.ensures.moved c.next.ensures.counted in
    let held : IsHeld r.tables r.arena c.in-Some.next.0 c.in-Some.next.1 = item_held r.tables r.arena r.from r.level c.in-Some.next.0 c.in-Some.next.1 c.next.new.self r.found.items run c.in-Some.ensures.held in
    let low = first_below r.tables r.arena c.in-Some.next.0 c.in-Some-first.place c.in-Some-first.rest c.in-Some.next.1 held c.in-Some-first.ensures.some in
    omega (arith, low, c.least_at.ensures.value)

pub grow-requires-clause-parent : goal.grow-requires-clause-parent
grow-requires-clause-parent c =
    let r = c.self.inside in
    let run : IsRunning r.tables r.arena r.from r.level c.next.new.self r.found.items = running_next r.tables r.arena r.from r.level _ _ r.found.items c.self.invariant c.next.ensures.moved c.next.ensures.counted in
    let held : IsHeld r.tables r.arena c.in-Some.next.0 c.in-Some.next.1 = item_held r.tables r.arena r.from r.level c.in-Some.next.0 c.in-Some.next.1 c.next.new.self r.found.items run c.in-Some.ensures.held in
    let low = first_below r.tables r.arena c.in-Some.next.0 c.in-Some-first.place c.in-Some-first.rest c.in-Some.next.1 held c.in-Some-first.ensures.some in
    parent_of r.tables r.arena c.in-Some.next.0 c.in-Some-first.place c.in-Some-first.rest (c.in-Some.next.0 - c.least_at.result) c.in-Some.next.1 held c.in-Some-first.ensures.some c.in-Some-first.ensures.within (omega (arith, low, c.least_at.ensures.value))

pub grow-requires-clause-ways : goal.grow-requires-clause-ways
grow-requires-clause-ways c =
    let r = c.self.inside in
    let run : IsRunning r.tables r.arena r.from r.level c.next.new.self r.found.items = running_next r.tables r.arena r.from r.level _ _ r.found.items c.self.invariant c.next.ensures.moved c.next.ensures.counted in
    let held : IsHeld r.tables r.arena c.in-Some.next.0 c.in-Some.next.1 = item_held r.tables r.arena r.from r.level c.in-Some.next.0 c.in-Some.next.1 c.next.new.self r.found.items run c.in-Some.ensures.held in
    c.self.invariant.complete.ways c.in-Some-first.place (first_place r.tables r.arena c.in-Some.next.0 c.in-Some-first.place c.in-Some-first.rest c.in-Some.next.1 held c.in-Some-first.ensures.some)

pub invariant_of-self-in_err-grow-in-Some-first : goal.invariant_of-self-in_err-grow-in-Some-first
invariant_of-self-in_err-grow-in-Some-first c =
    let r = c.self.inside in
    let run : IsRunning r.tables r.arena r.from r.level c.next.new.self r.found.items = running_next r.tables r.arena r.from r.level _ _ r.found.items c.self.invariant c.next.ensures.moved c.next.ensures.counted in
    running_kept r.tables r.arena c.grow.new.arena r.from r.level c.next.new.self r.found.items c.grow.ensures.grown run

pub invariant_of-self-in_err-replace_held-in-Some-first : goal.invariant_of-self-in_err-replace_held-in-Some-first
invariant_of-self-in_err-replace_held-in-Some-first c =
    let r = c.self.inside in
    let run : IsRunning r.tables r.arena r.from r.level c.next.new.self r.found.items = running_next r.tables r.arena r.from r.level _ _ r.found.items c.self.invariant c.next.ensures.moved c.next.ensures.counted in
    let P : Pending → Type 0 = λ p. IsRunning r.tables c.grow.new.arena r.from r.level p r.found.items in
    subst P (sym c.in_err-replace_held-in-Some-first.ensures.same) (running_kept r.tables r.arena c.grow.new.arena r.from r.level c.next.new.self r.found.items c.grow.ensures.grown run)

pub invariant_of-self-in-Some-first : goal.invariant_of-self-in-Some-first
invariant_of-self-in-Some-first c =
    let r = c.self.inside in
    let P : Rebuilding → Type 0 = λ v. v.progress.from ≤ v.reached in
    let begun : r.from ≤ r.level = subst P (sym c.self.view_is) c.requires.begun in
    let run : IsRunning r.tables r.arena r.from r.level c.next.new.self r.found.items = running_next r.tables r.arena r.from r.level _ _ r.found.items c.self.invariant c.next.ensures.moved c.next.ensures.counted in
    running_grown r.tables r.arena c.grow.new.arena r.from r.level c.in-Some.next.0 c.in-Some-first.rest c.in-Some-first.place c.in-Some.next.1 c.next.new.self c.replace_held.new.self c.clear.new.self.items c.grow.new.children.items r.found.items run begun c.in-Some.ensures.held (omega (arith, c.if-key-self.false)) c.in-Some-first.ensures.some
    c.clear.ensures.items c.in_ok-grow-in-Some-first.ensures.grew c.in_ok-replace_held-in-Some-first.ensures.moved c.in_ok-replace_held-in-Some-first.ensures.taken c.replace_held.ensures.pops
