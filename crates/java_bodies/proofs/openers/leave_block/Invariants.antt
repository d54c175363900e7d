use Rattle.std.proofs.Common.{◌≡◌, reverse, vec_len}
use Rattle.java_bodies.specs.Openers.{outside}
use Rattle.java_bodies.proofs.openers.leave_block.Given as goal

abbrev pub invariant-loop-bracket : goal.invariant-loop-bracket
invariant-loop-bracket l = outside (reverse l.inner.items) ≡ outside (reverse l.initial.inner.items)

abbrev pub decreases-loop-bracket : goal.decreases-loop-bracket
decreases-loop-bracket l = vec_len l.inner
