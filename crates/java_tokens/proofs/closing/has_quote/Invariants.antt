use Rattle.std.proofs.Common.{◌≡◌, drop, false}
use Rattle.java_tokens.specs.Rules.{has_quote}
use Rattle.java_tokens.proofs.closing.has_quote.Given as goal

abbrev pub invariant-loop-i : goal.invariant-loop-i
invariant-loop-i l = has_quote l.mark false l.bytes ≡ has_quote l.mark l.taken (drop l.i l.bytes)
