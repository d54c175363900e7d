use Rattle.std.proofs.Common.{sym, ◌∙◌, arith}
use Rattle.terms.specs.Table.{first_gap}
use Rattle.terms.proofs.Gaps.{first_below-zero, first_below-step, first_below-found, none-is}
use Rattle.terms.proofs.above.first_gap.Goals as goal

pub loop-lower-init : goal.loop-lower-init
loop-lower-init c = first_below-zero _

pub returns-then-is_some : goal.returns-then-is_some
unfolding first_gap
returns-then-is_some c = first_below-found _ _ c.loop-lower.lower c.gap_above-fault.result (omega arith) c.loop-lower.invariant c.gap_above-fault.ensures (sym c.is_some.ensures ∙ c.if-is_some.true)

pub loop-lower-preserved : goal.loop-lower-preserved
loop-lower-preserved c = first_below-step _ c.loop-lower.lower c.loop-lower.invariant (sym c.gap_above-fault.ensures ∙ none-is _ (sym c.is_some.ensures ∙ c.if-is_some.false))
