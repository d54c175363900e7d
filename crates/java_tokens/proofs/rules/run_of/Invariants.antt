use Rattle.std.proofs.Common.{◌≡◌, ◌+◌, drop}
use Rattle.java_tokens.specs.Rules.{run_of}
use Rattle.java_tokens.proofs.rules.run_of.Given as goal

abbrev pub invariant-loop-i : goal.invariant-loop-i
invariant-loop-i l = run_of l.class l.cs ≡ l.i + run_of l.class (drop l.i l.cs)
