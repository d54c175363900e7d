use Rattle.std.proofs.Common.{rules}
use Rattle.java_resolve.proofs.Resolving.{short_step, short_end}
use Rattle.java_resolve.proofs.lengths.short_args.Goals as goal

pub loop-arg-preserved : goal.loop-arg-preserved
loop-arg-preserved c = short_step c.args.args.now c.loop-arg.arg-index c.arg-item.result (search rules) c.arg-item.is c.loop-arg.invariant c.short_arg.ensures

pub returns : goal.returns
returns c = short_end c.args.args.now c.loop-arg.arg-index (search rules) c.loop-arg.invariant
