use Rattle.std.proofs.Common.{◌≡◌, ◌≤◌, ◌<◌, ◌++◌, [], drop, length, get_or}
use Rattle.partial_terms.specs.Chained.{IsGrown}
use Rattle.reconstruction.specs.Tabled.{numbered_under}
use Rattle.reconstruction.proofs.longer_fronts.keep_places.Given as goal

abbrev pub invariant-loop-i : goal.invariant-loop-i
invariant-loop-i l = record {
  inside : l.i ≤ length l.states;
  within : l.at < length l.stacks;
  kept : get_or l.stacks l.at [] ≡ numbered_under l.lambdas (drop l.i l.states) ++ get_or l.fn.stacks l.rest [];
  grown : IsGrown l.fn.stacks l.stacks;
}

abbrev pub decreases-loop-i : goal.decreases-loop-i
decreases-loop-i l = l.i
