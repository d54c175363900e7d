use Rattle.std.proofs.Common.{◌≡◌, ◌++◌, ◌⊎◌, ap, sym, subst, rules, Err, Some}
use Rattle.start_text.specs.Faults.{IsOutside}
use Rattle.start_text.specs.Taken.{as_held, wrong_among}
use Rattle.start_text.specs.declared.fault.StartFault.{StartFault}
use Rattle.start_text.proofs.Batching.{parsed_sound, parsed_classes, parsed_wrong, batch_inside}
use Rattle.start_text.proofs.batches.read_batch.Goals as goal

pub returns-in_ok-append-in-Ok-clause-fault : goal.returns-in_ok-append-in-Ok-clause-fault
returns-in_ok-append-in-Ok-clause-fault g c = parsed_sound c.args.batch.now c.parse.ensures.short c.in-Ok.ensures.wrong

pub returns-in_ok-append-in-Ok-clause-classes : goal.returns-in_ok-append-in-Ok-clause-classes
returns-in_ok-append-in-Ok-clause-classes g c =
    let grown : c.append.new.self ≡ c.args.classes.now ++ c.in-Ok.added = search rules in
    (c.in-Ok.added, grown, parsed_classes c.args.batch.now c.in-Ok.added c.in-Ok.ensures.classes)

pub returns-in-Err-clause-fault : goal.returns-in-Err-clause-fault
returns-in-Err-clause-fault g c =
    let wrong = parsed_wrong c.args.batch.now c.in-Err.fault c.parse.ensures.short c.in-Err.ensures.wrong in
    subst (λ (f : StartFault). IsOutside f ⊎ (wrong_among (as_held c.args.batch.now) ≡ Some f)) (sym c.from.ensures) wrong

pub returns-in-Err-clause-inside : goal.returns-in-Err-clause-inside
returns-in-Err-clause-inside g c = λ e. batch_inside c.in-Err.fault _ (ap Err c.from.ensures) e
