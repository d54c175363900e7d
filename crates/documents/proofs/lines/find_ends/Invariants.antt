use Rattle.std.proofs.Common.{◌≤◌, ◌-◌, length}
use Rattle.documents.proofs.Moves.{FoundEnds}
use Rattle.documents.proofs.lines.find_ends.Given as goal

abbrev pub invariant-loop-end : goal.invariant-loop-end
invariant-loop-end l = record {
  within : l.at ≤ l.to;
  ends : FoundEnds l.text l.fn.ends.items l.ends.items l.from l.at l.to;
}

abbrev pub decreases-loop-end : goal.decreases-loop-end
decreases-loop-end l = length l.text - l.at
