use Rattle.std.proofs.Common.{◌≡◌, take, not, false}
use Rattle.std.specs.Prelude.{is_some}
use Rattle.std.specs.List.{list_any}
use Rattle.offers.proofs.mentioned.has_void_face.Given as goal

abbrev pub invariant-loop-face : goal.invariant-loop-face
invariant-loop-face l = list_any (λ f. not (is_some f.result)) (take l.face-index l.faces) ≡ false
