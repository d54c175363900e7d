use Rattle.std.proofs.Common.{subst, rules, arith, List, ℕ}
use Rattle.std.proofs.lemmas.Grind.{common_steps}
use Rattle.std.proofs.lemmas.List.{take_all}
use Rattle.patterns.specs.States.{IsOpenKind}
use Rattle.patterns.proofs.openings.open_kind.Goals as goal

pub loop-need-preserved : goal.loop-need-preserved
loop-need-preserved c = record {
  open_so_far = grind (arith, common_steps);
  grown = search rules;
  in_range = λ sets low before. c.in_ok-open_need.ensures.in_range sets low (c.loop-need.invariant.in_range sets low before);
}

pub returns-clause-open : goal.returns-clause-open
returns-clause-open c = subst (λ (l : List ℕ). IsOpenKind c.args.sets.now c.loop-need.states.keys c.args.from l) (take_all _ _ (search rules)) c.loop-need.invariant.open_so_far
