use Rattle.std.proofs.Common.{◌≡◌, ◌≤◌, length}
use Rattle.std.specs.Path.{rfind_below}
use Rattle.offers.proofs.reach.package_end.Given as goal

abbrev pub invariant-loop-n : goal.invariant-loop-n
invariant-loop-n l = (rfind_below 47 l.name (length l.name) ≡ rfind_below 47 l.name l.n) × (l.n ≤ length l.name)

abbrev pub decreases-loop-n : goal.decreases-loop-n
decreases-loop-n l = l.n
