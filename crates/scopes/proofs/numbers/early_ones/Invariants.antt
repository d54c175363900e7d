use Rattle.std.proofs.Common.{◌≡◌, ◌+◌, drop}
use Rattle.scopes.specs.Numbers.{early_ones}
use Rattle.scopes.proofs.numbers.early_ones.Given as goal

abbrev pub invariant-loop-i : goal.invariant-loop-i
invariant-loop-i l = early_ones l.types ≡ l.i + early_ones (drop l.i l.types)
