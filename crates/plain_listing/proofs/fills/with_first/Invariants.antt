use Rattle.std.proofs.Common.{◌≡◌, ◌++◌, take}
use Rattle.plain_listing.proofs.fills.with_first.Given as goal

abbrev pub invariant-loop-term : goal.invariant-loop-term
invariant-loop-term l = l.all ≡ l.initial.all ++ take l.term-index l.rest
