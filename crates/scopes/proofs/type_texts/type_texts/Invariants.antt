use Rattle.std.proofs.Common.{◌≡◌, map, take}
use Rattle.offers.specs.Spellings.{type_text}
use Rattle.offers.specs.Views.{scene}
use Rattle.scopes.proofs.type_texts.type_texts.Given as goal

abbrev pub invariant-loop-kind : goal.invariant-loop-kind
invariant-loop-kind l = l.all ≡ map (type_text (scene l.spellings)) (take l.kind-index l.kinds)
