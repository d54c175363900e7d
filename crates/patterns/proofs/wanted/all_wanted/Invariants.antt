use Rattle.std.proofs.Common.{◌≡◌, take, length}
use Rattle.patterns.specs.States.{AreWanted}
use Rattle.patterns.proofs.wanted.all_wanted.Given as goal

abbrev pub invariant-loop-i : goal.invariant-loop-i
invariant-loop-i l = record {
  long : length l.wanted ≡ l.i;
  wanted : AreWanted (take l.i l.needs) l.wanted;
}
