use Rattle.std.proofs.Common.{◌≡◌, length}
use Rattle.checker.specs.Frames.{closed}
use Rattle.checker.specs.OpenParts.{frames_of}
use Rattle.checker.proofs.reading.close.Given as goal

abbrev pub invariant-loop-part : goal.invariant-loop-part
invariant-loop-part l = closed l.sum (frames_of l.parts.items) ≡ closed l.sum (frames_of l.initial.parts.items)

abbrev pub decreases-loop-part : goal.decreases-loop-part
decreases-loop-part l = length l.parts.items
