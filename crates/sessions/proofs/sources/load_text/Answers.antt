use Rattle.std.proofs.Common.{rules, inr, refl, None, Some}
use Rattle.sessions.proofs.Filing.{may_bytes, may_missing, may_long, long_held, may_any, any_held, files_as}
use Rattle.sessions.proofs.Sourcing.{text_there, text_long}
use Rattle.sessions.proofs.sources.load_text.Goals as goal

pub text_of-requires : goal.text_of-requires
text_of-requires g c = rw c.in-Ok-Bytes.field-0-is at c.in-Ok-Bytes.ensures.bound

pub returns-in-Ok-Bytes-clause-found : goal.returns-in-Ok-Bytes-clause-found
returns-in-Ok-Bytes-clause-found g c =
    let holds = (g.W.World.state c.args.world.now).holds in
    (Some c.load.new.out.items, may_bytes holds c.args.name.now c.in-Ok-Bytes.field-0 c.load.new.out.items c.in-Ok-Bytes.field-0-is c.in-Ok-Bytes.ensures.answer, text_there c.args.index c.load.new.out.items c.text_of.result c.text_of.ensures.text)

pub returns-in-Ok-Bytes-clause-files : goal.returns-in-Ok-Bytes-clause-files
returns-in-Ok-Bytes-clause-files g c = files_as _ _ c.load.ensures.files (λ e. absurd (c.text_of.ensures.inside e))

pub returns-in-Ok-Missing-clause-found : goal.returns-in-Ok-Missing-clause-found
returns-in-Ok-Missing-clause-found g c =
    let holds = (g.W.World.state c.args.world.now).holds in
    (None, may_missing holds c.args.name.now c.in-Ok-Missing.field-0 c.load.new.out.items c.in-Ok-Missing.field-0-is c.in-Ok-Missing.ensures.answer, refl)

pub returns-in-Ok-Missing-clause-files : goal.returns-in-Ok-Missing-clause-files
returns-in-Ok-Missing-clause-files g c = files_as _ _ c.load.ensures.files (λ e. absurd e)

pub returns-in-Ok-TooLong-clause-found : goal.returns-in-Ok-TooLong-clause-found
returns-in-Ok-TooLong-clause-found g c =
    let holds = (g.W.World.state c.args.world.now).holds in
    let n = c.in-Ok-TooLong.field-0-0 in
    let bound = rw c.in-Ok-TooLong.field-0-is at c.in-Ok-TooLong.ensures.bound in
    (long_held holds c.args.name.now n, may_long holds c.args.name.now n, text_long holds c.args.name.now c.in-Ok-TooLong.field-0 c.load.new.out.items c.args.index n c.in-Ok-TooLong.field-0-is bound.1 c.in-Ok-TooLong.ensures.answer)

pub returns-in-Ok-TooLong-clause-files : goal.returns-in-Ok-TooLong-clause-files
returns-in-Ok-TooLong-clause-files g c = files_as _ _ c.load.ensures.files (λ e. absurd e)

pub returns-in-Err-Failed-clause-found : goal.returns-in-Err-Failed-clause-found
returns-in-Err-Failed-clause-found g c =
    let holds = (g.W.World.state c.args.world.now).holds in
    (any_held holds c.args.name.now, may_any holds c.args.name.now, refl)

pub returns-in-Err-Failed-clause-files : goal.returns-in-Err-Failed-clause-files
returns-in-Err-Failed-clause-files g c = files_as _ _ c.load.ensures.files (λ e. search rules)

pub returns-clause-found : goal.returns-clause-found
returns-clause-found g c =
    let holds = (g.W.World.state c.args.world.now).holds in
    (any_held holds c.args.name.now, may_any holds c.args.name.now, tt)

pub returns-clause-files : goal.returns-clause-files
returns-clause-files g c = files_as _ _ c.load.ensures.files (λ e. absurd e)
