use Rattle.std.proofs.Common.{◌≡◌, ◌+◌, drop}
use Rattle.java_tokens.specs.Rules.{up_to}
use Rattle.java_tokens.proofs.rules.up_to.Given as goal

abbrev pub invariant-loop-i : goal.invariant-loop-i
invariant-loop-i l = up_to l.mark l.cs ≡ l.i + up_to l.mark (drop l.i l.cs)
