use Rattle.std.proofs.Common.{subst, rules, arith, List, ℕ}
use Rattle.std.proofs.lemmas.Grind.{common_steps}
use Rattle.std.proofs.lemmas.List.{take_all}
use Rattle.patterns.specs.States.{IsOpenState}
use Rattle.patterns.proofs.openings.open_state.Goals as goal

pub loop-kind-preserved : goal.loop-kind-preserved
loop-kind-preserved c = record {
  open_so_far = grind (arith, common_steps);
  grown = search rules;
  in_range = λ sets low before. c.in_ok-open_numbered.ensures.in_range sets low (c.loop-kind.invariant.in_range sets low before);
}

pub returns-clause-open : goal.returns-clause-open
returns-clause-open c = subst (λ (l : List ℕ). IsOpenState c.args.sets.now c.args.kinds.now c.loop-kind.states.keys c.args.from l) (take_all _ _ (search rules)) c.loop-kind.invariant.open_so_far
