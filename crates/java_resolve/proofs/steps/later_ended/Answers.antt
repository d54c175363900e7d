use Rattle.java_resolve.specs.View.{around, before_view}
use Rattle.java_resolve.proofs.Closings.{along_shape, path_then, path_else}
use Rattle.java_resolve.proofs.steps.later_ended.Goals as goal

pub returns-then-may_end : goal.returns-then-may_end
returns-then-may_end c = along_shape c.path_unwrapped.result _ _ (path_then (around c.args.frames.now) c.args.cast (before_view c.args.path.before) c.args.path.done c.args.path.word c.may_end.result c.may_end.ensures c.if-may_end.true) c.path_unwrapped.ensures

pub returns-else-may_end : goal.returns-else-may_end
returns-else-may_end c = path_else (around c.args.frames.now) c.args.cast (before_view c.args.path.before) c.args.path.done c.args.path.word c.may_end.result c.may_end.ensures c.if-may_end.false
