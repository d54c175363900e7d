-- The code's parts that are being read, as the definitions see them.
use Rattle.std.specs.Prelude.{ℕ, List, map, reverse, Option, Some, None, Bool, if◌then◌else◌}
use Rattle.terms.specs.Typing.{rows}
use Rattle.checker.specs.Frames.{Frame, Walk}
use Rattle.checker.specs.Frames as frames
use Rattle.checker.specs.declared.open_part.OpenPart.{OpenPart}
use Rattle.checker.specs.declared.open_part.Spot.{Spot}
use Rattle.checker.specs.declared.open_part.Head.{Head}

abbrev pub frame_of : OpenPart → Frame
frame_of p = record { ctx = rows p.ctx; left = p.left; wanted = p.wanted.now; end = p.end }

-- the part that was begun last comes first
abbrev pub frames_of : List OpenPart → List Frame
frames_of parts = map frame_of (reverse parts)

abbrev pub spot_view : Spot → frames.Spot
spot_view s = record { ctx = rows s.ctx; left = s.left; wanted = s.wanted; binders = s.binders }

abbrev pub head_view : Head → frames.Head
head_view h = record { result = h.result; weight = h.weight; args = h.args.now }

-- the parts, where the test held
abbrev pub frames_if : Bool → List OpenPart → Option (List Frame)
frames_if b parts = if b then Some (frames_of parts) else None

-- the sum with the parts, where there is a sum
abbrev pub walk_if : Option ℕ → List OpenPart → Option Walk
walk_if None parts = None
walk_if (Some w) parts = Some (record { sum = w; frames = frames_of parts })
