use Rattle.std.proofs.Common.{◌≡◌, ◌++◌, map, take}
use Rattle.terms.specs.View.{expr, args_view}
use Rattle.terms.specs.Typing.{placed}
use Rattle.plain_listing.proofs.fills.push_first.Given as goal

abbrev pub invariant-loop-rest : goal.invariant-loop-rest
invariant-loop-rest l = map args_view l.all.items ≡ map args_view l.initial.all.items ++ map (placed l.wanted (expr l.first)) (map args_view (take l.rest-index l.more))
