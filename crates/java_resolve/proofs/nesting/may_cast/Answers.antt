use Rattle.std.proofs.Common.{◌∙◌, sym}
use Rattle.java_resolve.proofs.Frames.{none_is, cast_none, cast_some}
use Rattle.java_resolve.proofs.nesting.may_cast.Goals as goal

pub returns-in-None : goal.returns-in-None
returns-in-None c = cast_none c.args.frames.now c.args.cast.now (sym c.in-None.ensures.value)

pub returns-in-Some : goal.returns-in-Some
returns-in-Some c = none_is c.is_none.result _ c.is_none.ensures ∙ cast_some c.args.frames.now c.in-Some.field-0.now c.args.cast.now (sym c.in-Some.ensures.value)
