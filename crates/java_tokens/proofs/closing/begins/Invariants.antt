use Rattle.std.proofs.Common.{◌≡◌, drop}
use Rattle.java_tokens.specs.Rules.{begins}
use Rattle.java_tokens.proofs.closing.begins.Given as goal

abbrev pub invariant-loop-i : goal.invariant-loop-i
invariant-loop-i l = begins l.mark l.bytes ≡ begins (drop l.i l.mark) (drop l.i l.bytes)
