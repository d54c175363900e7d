use Rattle.std.proofs.Common.{◌≡◌, ℕ, List, take}
use Rattle.offers.specs.Scenes.{is_among}
use Rattle.offers.proofs.hidden.names_of.Given as goal

abbrev pub invariant-loop-text : goal.invariant-loop-text
invariant-loop-text l = (text : List ℕ) → is_among l.names text ≡ is_among (take l.text-index l.texts) text
