use Rattle.std.proofs.Common.{◌≡◌, length}
use Rattle.java_shapes.specs.Reader.{close}
use Rattle.java_resolve.specs.View.{around, shape_view}
use Rattle.java_resolve.proofs.closing.close.Given as goal

abbrev pub invariant-frames : goal.invariant-frames
invariant-frames l = close (around l.initial.frames) l.initial.cast (shape_view l.initial.expression) l.k ≡ close (around l.frames) l.cast (shape_view l.expression) l.k

abbrev pub decreases-frames : goal.decreases-frames
decreases-frames l = length l.frames
