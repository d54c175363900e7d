use Rattle.std.proofs.lemmas.Result.{err_from_is_err_and}
use Rattle.sessions.proofs.Changing.{has_loaded, unloaded, classes_told, missing_told, too_long_told, no_class_told, no_text_told, unreadable_told}
use Rattle.sessions.proofs.publications.publish.Goals as goal

pub returns-in_err-puts : goal.returns-in_err-puts
returns-in_err-puts g c =
    let p = err_from_is_err_and c.from_residual.result c.from_residual.ensures.1 in
    record { answered = λ s. rw p.1 (unloaded s c.args.id.now c.args.files.now _ _ _ _ c.in_err-puts.ensures.files c.in_err-puts.ensures.none) }

pub returns-in-Classes : goal.returns-in-Classes
returns-in-Classes g c = record { answered = λ s. classes_told s c.args.id.now c.args.files.now _ _ _ c.in-Classes.puts c.make_change.result _ _ _ (has_loaded c.args.files.now _ _ _ c.in_ok-puts.ensures.gives c.in_ok-puts.ensures.files c.in_ok-puts.ensures.none) c.in-Classes.is c.make_change.ensures.changed c.make_change.ensures.no_memory }

pub returns-in-Missing : goal.returns-in-Missing
returns-in-Missing g c = record { answered = λ s. missing_told s c.args.id.now c.args.files.now _ _ _ c.in-Missing.index c.failure_reply.result _ _ (has_loaded c.args.files.now _ _ _ c.in_ok-puts.ensures.gives c.in_ok-puts.ensures.files c.in_ok-puts.ensures.none) c.in-Missing.is c.failure_reply.ensures.body }

pub returns-in-TooLong : goal.returns-in-TooLong
returns-in-TooLong g c = record { answered = λ s. too_long_told s c.args.id.now c.args.files.now _ _ _ c.in-TooLong.index c.failure_reply-in-TooLong.result _ _ (has_loaded c.args.files.now _ _ _ c.in_ok-puts.ensures.gives c.in_ok-puts.ensures.files c.in_ok-puts.ensures.none) c.in-TooLong.is c.failure_reply-in-TooLong.ensures.body }

pub returns-in-NoClass : goal.returns-in-NoClass
returns-in-NoClass g c = record { answered = λ s. no_class_told s c.args.id.now c.args.files.now _ _ _ c.in-NoClass.index c.in-NoClass.class c.in-NoClass.place c.failure_reply-in-NoClass.result _ _ (has_loaded c.args.files.now _ _ _ c.in_ok-puts.ensures.gives c.in_ok-puts.ensures.files c.in_ok-puts.ensures.none) c.in-NoClass.is c.failure_reply-in-NoClass.ensures.body }

pub returns-in-NoText : goal.returns-in-NoText
returns-in-NoText g c = record { answered = λ s. no_text_told s c.args.id.now c.args.files.now _ _ _ c.in-NoText.index c.failure_reply-in-NoText.result _ _ (has_loaded c.args.files.now _ _ _ c.in_ok-puts.ensures.gives c.in_ok-puts.ensures.files c.in_ok-puts.ensures.none) c.in-NoText.is c.failure_reply-in-NoText.ensures.body }

pub returns-in-Unreadable : goal.returns-in-Unreadable
returns-in-Unreadable g c = record { answered = λ s. unreadable_told s c.args.id.now c.args.files.now _ _ _ c.in-Unreadable.index c.failure_reply-in-Unreadable.result _ _ (has_loaded c.args.files.now _ _ _ c.in_ok-puts.ensures.gives c.in_ok-puts.ensures.files c.in_ok-puts.ensures.none) c.in-Unreadable.is c.failure_reply-in-Unreadable.ensures.body }
