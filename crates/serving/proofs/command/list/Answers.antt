use Rattle.std.proofs.Common.{rules, inr}
use Rattle.serving.proofs.Endings.{begun}
use Rattle.serving.specs.Runs.{HasWritten, HasBegun}
use Rattle.sheet_runs.proofs.Endings.{unread}
use Rattle.serving.proofs.command.list.Goals as goal

pub returns-in-Err-clause-ending : goal.returns-in-Err-clause-ending
returns-in-Err-clause-ending g c =
    let w = g.K.Sink.written c.args.end.now.sink in
    unread (λ p. HasWritten p w w) (λ p. HasBegun p w w) c.in-Err.ending _ _ w _ _ _ _ c.in-Err.ensures.unread

pub returns-in-Ok-write_list-clause-ending : goal.returns-in-Ok-write_list-clause-ending
returns-in-Ok-write_list-clause-ending g c = (c.in-Ok.env, c.in-Ok.ensures.sheet, c.in-Ok-write_list.ensures.whole)

pub returns-in-Err-Failed-clause-ending : goal.returns-in-Err-Failed-clause-ending
returns-in-Err-Failed-clause-ending g c =
    (c.in-Err-Failed.ensures.cause (search rules), (c.in-Ok.env, c.in-Ok.ensures.sheet, begun c.in-Ok.env _ _ c.in-Ok.ensures.valid c.in-Err-Failed.ensures.prefix))

pub returns-in-Err-OutOfMemory-clause-ending : goal.returns-in-Err-OutOfMemory-clause-ending
returns-in-Err-OutOfMemory-clause-ending g c =
    inr (c.in-Ok.env, c.in-Ok.ensures.sheet, begun c.in-Ok.env _ _ c.in-Ok.ensures.valid c.in-Err-OutOfMemory.ensures.prefix)
