use Rattle.std.proofs.Common.{◌≡◌, ◌+◌, drop, false}
use Rattle.java_tokens.specs.Rules.{quoted_in_line}
use Rattle.java_tokens.proofs.rules.quoted_in_line.Given as goal

abbrev pub invariant-loop-i : goal.invariant-loop-i
invariant-loop-i l = quoted_in_line l.mark false l.cs ≡ l.i + quoted_in_line l.mark l.taken (drop l.i l.cs)
