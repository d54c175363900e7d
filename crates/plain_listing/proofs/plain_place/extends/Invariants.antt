use Rattle.std.proofs.Common.{◌≡◌, ◌++◌, ◌∷◌, [], drop}
use Rattle.plain_listing.specs.Tables.{same_rows}
use Rattle.plain_listing.proofs.plain_place.extends.Given as goal

abbrev pub invariant-loop-i : goal.invariant-loop-i
invariant-loop-i l = same_rows l.context (l.outer ++ l.params ∷ []) ≡ same_rows (drop l.i l.context) (drop l.i l.outer ++ l.params ∷ [])
