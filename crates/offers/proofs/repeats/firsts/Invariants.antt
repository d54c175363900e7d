use Rattle.std.proofs.Common.{◌≡◌, []}
use Rattle.std.specs.Prelude.{fold}
use Rattle.offers.specs.Omissions.{with_first}
use Rattle.offers.proofs.repeats.firsts.Given as goal

abbrev pub invariant-loop-member : goal.invariant-loop-member
invariant-loop-member l = l.kept ≡ fold with_first [] l.yielded
