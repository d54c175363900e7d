use Rattle.std.proofs.Common.{take}
use Rattle.java_resolve.specs.Readable.{AreTypeTexts}
use Rattle.java_resolve.proofs.readable.are_arg_texts.Given as goal

abbrev pub invariant-loop-arg : goal.invariant-loop-arg
invariant-loop-arg l = AreTypeTexts l.parts (take l.arg-index l.args)
