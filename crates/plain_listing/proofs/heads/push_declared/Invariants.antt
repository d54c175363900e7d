use Rattle.std.proofs.Common.{◌≡◌, ◌++◌, map}
use Rattle.terms.specs.Expr.{head}
use Rattle.terms.specs.View.{expr, args_view}
use Rattle.plain_listing.proofs.heads.push_declared.Given as goal

abbrev pub invariant-loop-args : goal.invariant-loop-args
invariant-loop-args l = map expr l.all ≡ map expr l.initial.all ++ map (head l.n) (map args_view l.yielded)
