use Rattle.std.proofs.Common.{◌≡◌, ◌++◌, map, take}
use Rattle.terms.specs.View.{expr, args_view}
use Rattle.plain_listing.specs.Generate.{firsts}
use Rattle.plain_listing.proofs.fills.push_firsts.Given as goal

abbrev pub invariant-loop-first : goal.invariant-loop-first
invariant-loop-first l = map args_view l.all.items ≡ map args_view l.initial.all.items ++ firsts l.wanted (map expr (take l.first-index l.terms)) (map args_view l.more)
