use Rattle.std.proofs.Common.{◌≡◌, length}
use Rattle.java_shapes.specs.Reader.{unwrapped}
use Rattle.java_resolve.specs.View.{around, shape_view}
use Rattle.java_resolve.proofs.closing.unwrapped.Given as goal

abbrev pub invariant-frames : goal.invariant-frames
invariant-frames l = unwrapped (around l.initial.frames) l.initial.cast (shape_view l.initial.expression) ≡ unwrapped (around l.frames) l.cast (shape_view l.expression)

abbrev pub decreases-frames : goal.decreases-frames
decreases-frames l = length l.frames
