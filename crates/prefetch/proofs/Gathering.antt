-- What workers hold, one more of them gathered.
use Rattle.std.proofs.Common.{◌≡◌, ◌+◌, List, [], ◌∷◌, ◌++◌}
use Rattle.std.proofs.lemmas.List.Sums.{sum_by_push}
use Rattle.prefetch.specs.Starts.{Taking, parts_of}

pub parts_snoc : (ws : List Taking) (w : Taking) → parts_of (ws ++ w ∷ []) ≡ parts_of ws + w.parts
parts_snoc ws w = sum_by_push (λ (v : Taking). v.parts) ws w
