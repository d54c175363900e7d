use Rattle.std.proofs.Common.{IsUtf8}
use Rattle.hole_texts.proofs.Each.{HoldsTo}
use Rattle.hole_texts.proofs.looks.look_at_all.Given as goal

abbrev pub invariant-loop-text : goal.invariant-loop-text
invariant-loop-text l = HoldsTo IsUtf8 l.text-index l.texts
