use Rattle.java_resolve.specs.View.{before_view, args_view, shape_view}
use Rattle.java_resolve.proofs.Closings.{argument_rolled, with_last_by, call_closes}
use Rattle.java_resolve.proofs.closing.with_argument.Goals as goal

pub returns : goal.returns
returns c = λ a d k. call_closes a d (before_view c.args.call.before) c.args.call.name (args_view c.push.new.self) (args_view c.args.call.args) c.args.cast (shape_view c.args.shape) k (with_last_by c.push.new.self c.args.call.args _ c.args.cast (shape_view c.args.shape) c.in_ok-push.ensures.ok (argument_rolled c.args.cast c.args.shape))
