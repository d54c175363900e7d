use Rattle.reconstruction.proofs.Stacks.{AreTaken}
use Rattle.reconstruction.proofs.built_terms.take_args.Given as goal

abbrev pub invariant-loop-wish : goal.invariant-loop-wish
invariant-loop-wish l = AreTaken l.wanted l.wish-index l.args l.fn.stack.items l.stack.items
