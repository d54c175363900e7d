use Rattle.std.proofs.Common.{take}
use Rattle.java_shapes.specs.Readable.{AreShort}
use Rattle.java_resolve.proofs.lengths.short_args.Given as goal

abbrev pub invariant-loop-arg : goal.invariant-loop-arg
invariant-loop-arg l = AreShort (take l.arg-index l.args)
