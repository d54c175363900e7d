use Rattle.std.proofs.Common.{sym, rules}
use Rattle.std.proofs.lemmas.Bool.{eqb-true}
use Rattle.succinct.proofs.Needs.{named-more}
use Rattle.succinct.specs.declared.kind.Succinct.{Succinct}
use Rattle.patterns.proofs.kinds_by_result.goal_numbers.Goals as goal

pub loop-kind-preserved : goal.loop-kind-preserved
loop-kind-preserved c = named-more (λ (k : Succinct). k.result) _ _ _ _ _ c.loop-kind.kind-index c.in_ok-number_of.field-0 c.kind-item.result c.in_ok-number_of.ensures.stands.0 (search rules) c.kind-item.is c.number_of.ensures.grown c.in_ok-number_of.ensures.stands.1 (sym (eqb-true _ _ c.in_ok-number_of.ensures.stands.2)) c.in_ok-push.ensures.items c.loop-kind.invariant
