use Rattle.std.proofs.Common.{◌≡◌, true, false}
use Rattle.shared_shelf.specs.Shelves.{has}
use Rattle.shared_shelf.proofs.slots.Slots.share.Goals as goal

pub returns-in_ok-try_clone-in-Some-clause-added : goal.returns-in_ok-try_clone-in-Some-clause-added
returns-in_ok-try_clone-in-Some-clause-added g c is_false =
    let is : has c.args.self.now c.args.print ≡ true = rw (← c.self.view_is, ← c.deref.ensures.value, ← c.place_of.ensures.first, c.in-Some.is) (λ _. true) in
    absurd (cc (is_false, is))

pub returns-in_ok-add-in-None-clause-kept : goal.returns-in_ok-add-in-None-clause-kept
returns-in_ok-add-in-None-clause-kept g c is_true =
    let none : has c.args.self.now c.args.print ≡ false = rw (← c.self.view_is, ← c.deref.ensures.value, ← c.place_of.ensures.first, c.in-None.is) (λ _. false) in
    absurd (cc (is_true, none))
