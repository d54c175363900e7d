use Rattle.std.proofs.Common.{◌≡◌, ◌++◌, take}
use Rattle.std.specs.List.{flat_map}
use Rattle.offers.specs.Types.{face_types}
use Rattle.offers.proofs.mentioned.add_faces.Given as goal

abbrev pub invariant-loop-face : goal.invariant-loop-face
invariant-loop-face l = l.all ≡ l.initial.all ++ flat_map face_types (take l.face-index l.faces)
