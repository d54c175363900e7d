use Rattle.std.proofs.Common.{◌≡◌, map, take}
use Rattle.offers.proofs.texts.parts.Given as goal

abbrev pub invariant-loop-piece : goal.invariant-loop-piece
invariant-loop-piece l = l.all ≡ map (λ r. r.now) (take l.piece-index l.piece-items)
