use Rattle.std.proofs.Common.{◌++◌, ◌∙◌, List, ℕ, ap, arith}
use Rattle.plain_listing.proofs.Joined.{joined-next, joined-end}
use Rattle.plain_listing.proofs.rows.variables_of.Goals as goal

pub loop-i-preserved : goal.loop-i-preserved
loop-i-preserved c = joined-next c.args.context.now _ c.loop-i.all _ c.index-context-i.result c.loop-i.i (omega arith) c.index-context-i.is c.loop-i.invariant (c.in_ok-push_types.ensures ∙ ap (λ (xs : List ℕ). c.loop-i.all ++ xs) c.as_slice.ensures)

pub returns : goal.returns
returns c = joined-end c.args.context.now _ c.loop-i.all c.loop-i.i (omega arith) c.loop-i.invariant
