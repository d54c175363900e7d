use Rattle.std.proofs.Common.{◌≡◌, drop}
use Rattle.java_tokens.specs.Rules.{begins}
use Rattle.java_tokens.proofs.rules.begins.Given as goal

abbrev pub invariant-loop-i : goal.invariant-loop-i
invariant-loop-i l = begins l.mark l.cs ≡ begins (drop l.i l.mark) (drop l.i l.cs)
