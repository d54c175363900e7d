use Rattle.std.proofs.Common.{◌≡◌, ◌++◌, drop}
use Rattle.terms.specs.Typing.{joined}
use Rattle.plain_listing.proofs.rows.variables_of.Given as goal

abbrev pub invariant-loop-i : goal.invariant-loop-i
invariant-loop-i l = joined l.context ≡ l.all ++ joined (drop l.i l.context)
