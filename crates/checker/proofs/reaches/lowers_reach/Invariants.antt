use Rattle.std.proofs.Common.{◌≡◌, ◌<◌, ◌-◌, ℕ, length, slice_get, Some}
use Rattle.checker.specs.Heads.{PairReaches}
use Rattle.checker.proofs.reaches.lowers_reach.Given as goal

abbrev pub invariant-loop-i : goal.invariant-loop-i
invariant-loop-i l = record {
  so_far : (k j : ℕ) → k < l.i → slice_get l.numbers k ≡ Some j → PairReaches l.env l.floors l.floor j;
}

abbrev pub decreases-loop-i : goal.decreases-loop-i
decreases-loop-i l = length l.numbers - l.i
