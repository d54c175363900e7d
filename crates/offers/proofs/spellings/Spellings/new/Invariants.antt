use Rattle.offers.specs.Spelled.{AreSpelled}
use Rattle.offers.proofs.spellings.Spellings.new.Given as goal

abbrev pub invariant-loop-kind : goal.invariant-loop-kind
invariant-loop-kind l = AreSpelled l.view l.names l.texts.items
