use Rattle.std.proofs.Common.{◌∙◌, ap}
use Rattle.std.specs.Str.{chars}
use Rattle.java_shapes.specs.Reader.{begins_binder}
use Rattle.java_shapes.proofs.WordSteps.{begins_nothing}
use Rattle.java_resolve.proofs.steps.binders_opened_step.Goals as goal

pub binder_step-requires : goal.binder_step-requires
binder_step-requires c = ap (begins_binder (chars c.args.binder.now)) c.new-3.ensures ∙ begins_nothing (chars c.args.binder.now)
