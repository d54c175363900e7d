use Rattle.std.proofs.Common.{◌≡◌, ◌++◌, take}
use Rattle.plain_listing.proofs.rows.push_types.Given as goal

abbrev pub invariant-loop-of : goal.invariant-loop-of
invariant-loop-of l = l.all ≡ l.initial.all ++ take l.of-index l.types
