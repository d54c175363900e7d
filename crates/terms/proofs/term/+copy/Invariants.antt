use Rattle.std.proofs.Common.{◌≡◌, take}
use Rattle.terms.proofs.term.+copy.Given as goal

abbrev pub invariant-copy_args-loop-arg : goal.invariant-copy_args-loop-arg
invariant-copy_args-loop-arg l = l.copies ≡ take l.arg-index l.arg-items
