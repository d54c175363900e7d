use Rattle.std.proofs.Common.{◌≡◌, ◌+◌, drop, false}
use Rattle.java_tokens.specs.Rules.{quoted}
use Rattle.java_tokens.proofs.rules.quoted.Given as goal

abbrev pub invariant-loop-i : goal.invariant-loop-i
invariant-loop-i l = quoted l.mark false l.cs ≡ l.i + quoted l.mark l.taken (drop l.i l.cs)
