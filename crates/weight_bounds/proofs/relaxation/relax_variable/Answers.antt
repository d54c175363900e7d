use Rattle.std.proofs.Common.{◌≡◌, ◌+◌, subst, arith}
use Rattle.terms.specs.Weights.{variable_weight}
use Rattle.weight_bounds.proofs.Steps.{relaxed}
use Rattle.weight_bounds.specs.Numbers.{IsWithin, IsLowering}
use Rattle.weight_bounds.specs.Rules.{variable_rule}
use Rattle.weight_bounds.proofs.relaxation.relax_variable.Goals as goal

pub lower-requires : goal.lower-requires
lower-requires c = (let at = c.place_of.ensures.value in let low = c.requires.in_range in record { in_range = omega (arith, at, low) })

pub returns : goal.returns
returns c = record {
  relaxed = (
      let at = c.place_of.ensures.value in
      let g = c.args.setting.now.parts.now in
      let sum : variable_weight g ≡ variable_weight g + 0 = omega arith in
      let within = subst (λ n. IsWithin c.args.setting.now.limit.value n c.variable_cost-cost.result) sum c.variable_cost-cost.ensures.value in
      relaxed g c.args.setting.now.limit.value (variable_rule g c.args.left c.args.wanted) c.args.numbers.now c.lower.new.numbers c.args.queue.now.items c.lower.new.queue.items c.variable_cost-cost.result c.requires.rule within c.requires.in_range
      (subst (λ i. IsLowering c.args.setting.now.limit.value i c.variable_cost-cost.result c.args.numbers.now c.args.queue.now.items c.lower.new.numbers c.lower.new.queue.items) at c.in_ok-lower.ensures.lowering));
}
