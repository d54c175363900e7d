use Rattle.std.proofs.Common.{◌≡◌, ◌++◌, map, take}
use Rattle.offers.specs.Views.{scene}
use Rattle.scopes.specs.Declarations.{face_decl}
use Rattle.scopes.proofs.declarations.add_faces.Given as goal

abbrev pub invariant-loop-face : goal.invariant-loop-face
invariant-loop-face l = l.all ≡ l.fn.all ++ map (face_decl (scene l.spellings) l.numbers) (take l.face-index l.faces)
