use Rattle.std.proofs.Common.{◌≤◌, length}
use Rattle.code_walk.specs.Walk.{StandEndToEnd}
use Rattle.code_walk.proofs.walk.walk.Given as goal

abbrev pub invariant-loop-rest : goal.invariant-loop-rest
invariant-loop-rest l = record {
  within : length l.rest ≤ length l.code;
  stand : StandEndToEnd l.start 0 l.code l.all.items l.rest;
}

abbrev pub decreases-loop-rest : goal.decreases-loop-rest
decreases-loop-rest l = length l.rest
