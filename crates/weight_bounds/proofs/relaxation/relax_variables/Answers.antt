use Rattle.std.proofs.Common.{get_or, refl, sym, ap, ◌∙◌, arith}
use Rattle.terms.proofs.Valid.{valid-depth}
use Rattle.terms.specs.Table.{has}
use Rattle.weight_bounds.proofs.Members.{each-more, each-all, has-at, has-none}
use Rattle.weight_bounds.proofs.Sourced.{parameter-type}
use Rattle.weight_bounds.proofs.Steps.{step-none, step-then}
use Rattle.weight_bounds.specs.Numbers.{IsSettled}
use Rattle.weight_bounds.specs.Rules.{variable_rule, of_variable}
use Rattle.weight_bounds.proofs.relaxation.relax_variables.Goals as goal

pub loop-wanted-init : goal.loop-wanted-init
loop-wanted-init c = record { step = step-none _ _ _ _; settled = λ t h. absurd (has-none t h); as_many = refl }

pub relax_variable-requires : goal.relax_variable-requires
relax_variable-requires c =
    let g = c.args.setting.now.parts.now in
    let depth = valid-depth g c.args.setting.now.valid in
    let deep = c.requires.deep in
    let bound = ap (has (get_or c.args.types.now c.loop-wanted.wanted-index 0)) (sym c.requires.types) ∙ has-at c.args.types.now c.loop-wanted.wanted-index 0 c.loop-wanted-test.true in
    let low = parameter-type g c.args.setting.now.valid (get_or c.args.types.now c.loop-wanted.wanted-index 0) bound in
    let many = c.loop-wanted.invariant.as_many in
    let places = c.requires.places in
    record {
      in_range = omega (arith, low, many, places, depth, deep);
      rule = of_variable c.args.left (get_or c.args.types.now c.loop-wanted.wanted-index 0) deep bound;
    }

pub loop-wanted-preserved : goal.loop-wanted-preserved
loop-wanted-preserved c =
    let g = c.args.setting.now.parts.now in
    let done = c.in_ok-relax_variable.ensures.relaxed in
    record {
      step = step-then _ _ _ _ _ _ _ _ c.loop-wanted.invariant.step done.step;
      settled = each-more (λ t. IsSettled g c.args.setting.now.limit.value c.relax_variable.new.numbers c.relax_variable.new.queue.items (variable_rule g c.args.left t)) c.args.types.now c.loop-wanted.wanted-index (get_or c.args.types.now c.loop-wanted.wanted-index 0) 0 c.loop-wanted-test.true refl
          (λ t h. done.step.settled (variable_rule g c.args.left t) (c.loop-wanted.invariant.settled t h)) done.settled;
      as_many = done.step.as_many ∙ c.loop-wanted.invariant.as_many;
    }

pub returns-clause-settled : goal.returns-clause-settled
returns-clause-settled c t bound =
    let g = c.args.setting.now.parts.now in
    let past = c.loop-wanted-test.false in
    each-all (λ x. IsSettled g c.args.setting.now.limit.value c.loop-wanted.numbers c.loop-wanted.queue.items (variable_rule g c.args.left x)) c.args.types.now c.loop-wanted.wanted-index (omega (arith, past)) c.loop-wanted.invariant.settled t (ap (has t) c.requires.types ∙ bound)
