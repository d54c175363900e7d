use Rattle.std.proofs.Common.{◌∙◌, ap, sym, Some}
use Rattle.java_resolve.proofs.Frames.{none_is, barred_none, barred_call, barred_body, barred_group}
use Rattle.java_resolve.proofs.nesting.is_barred.Goals as goal

pub returns-in-None : goal.returns-in-None
returns-in-None c = barred_none c.args.frames.now c.args.cast.now (sym c.in-None.ensures.value)

pub returns-in-Call : goal.returns-in-Call
returns-in-Call c = barred_call c.args.frames.now c.in-Call.field-0 c.in-Call.field-1 c.args.cast.now (sym c.in-Some.ensures.value ∙ ap Some c.in-Call.is)

pub returns-in-Body : goal.returns-in-Body
returns-in-Body c = barred_body c.args.frames.now c.in-Body.field-0 c.in-Body.field-1 c.in-Body.field-2 c.args.cast.now (sym c.in-Some.ensures.value ∙ ap Some c.in-Body.is)

pub returns-in-Group : goal.returns-in-Group
returns-in-Group c = none_is c.is_none.result _ c.is_none.ensures ∙ barred_group c.args.frames.now c.in-Group.field-0 c.args.cast.now (sym c.in-Some.ensures.value ∙ ap Some c.in-Group.is)
