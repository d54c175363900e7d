use Rattle.std.proofs.Common.{◌≤◌, ◌<◌, ◌-◌, ℕ, length, get_or}
use Rattle.documents.proofs.starts.count_upto.Given as goal

abbrev pub invariant-loop-low : goal.invariant-loop-low
invariant-loop-low l = record {
  ordered : l.low ≤ l.high;
  within : l.high ≤ length l.starts;
  before : (k : ℕ) → k < l.low → get_or l.starts k 0 ≤ l.offset;
  after : (k : ℕ) → l.high ≤ k → k < length l.starts → l.offset < get_or l.starts k 0;
}

abbrev pub decreases-loop-low : goal.decreases-loop-low
decreases-loop-low l = l.high - l.low
