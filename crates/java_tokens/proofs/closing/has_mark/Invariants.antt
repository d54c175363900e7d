use Rattle.std.proofs.Common.{◌≡◌, drop}
use Rattle.java_tokens.specs.Rules.{has_mark}
use Rattle.java_tokens.proofs.closing.has_mark.Given as goal

abbrev pub invariant-loop-i : goal.invariant-loop-i
invariant-loop-i l = has_mark l.mark l.bytes ≡ has_mark l.mark (drop l.i l.bytes)
