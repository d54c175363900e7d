use Rattle.std.proofs.Common.{◌≡◌, ◌++◌, ◌∷◌, [], drop}
use Rattle.plain_listing.specs.Tables.{number_from}
use Rattle.plain_listing.proofs.plain_place.number_of.Given as goal

abbrev pub invariant-loop-n : goal.invariant-loop-n
invariant-loop-n l = number_from 0 l.contexts (l.outer ++ l.params ∷ []) ≡ number_from l.n (drop l.n l.contexts) (l.outer ++ l.params ∷ [])
