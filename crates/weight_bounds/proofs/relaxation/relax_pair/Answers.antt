use Rattle.std.proofs.Common.{◌≡◌, ◌+◌, subst, arith}
use Rattle.terms.specs.Weights.{coercion_weight}
use Rattle.weight_bounds.proofs.Steps.{relaxed}
use Rattle.weight_bounds.specs.Bounds.{place}
use Rattle.weight_bounds.specs.Numbers.{number_at, IsWithin, IsLowering}
use Rattle.weight_bounds.specs.Rules.{of_pair, source_rule}
use Rattle.weight_bounds.proofs.relaxation.relax_pair.Goals as goal

pub lower-requires : goal.lower-requires
lower-requires c = (let at = c.place_of.ensures.value in let low = c.requires.in_range in record { in_range = omega (arith, at, low) })

pub returns : goal.returns
returns c = record {
  relaxed = (
      let at = c.place_of.ensures.value in
      let g = c.args.setting.now.parts.now in
      let number = number_at c.args.setting.now.limit.value c.args.numbers.now (place c.args.pair.0 c.args.left) in
      let sum : coercion_weight g + number ≡ coercion_weight g + (number + 0) = omega arith in
      let within = subst (λ n. IsWithin c.args.setting.now.limit.value n c.coercion_cost-cost.result) sum c.coercion_cost-cost.ensures.value in
      relaxed g c.args.setting.now.limit.value (source_rule c.args.left (of_pair g c.args.pair)) c.args.numbers.now c.lower.new.numbers c.args.queue.now.items c.lower.new.queue.items c.coercion_cost-cost.result c.requires.rule within c.requires.in_range
      (subst (λ i. IsLowering c.args.setting.now.limit.value i c.coercion_cost-cost.result c.args.numbers.now c.args.queue.now.items c.lower.new.numbers c.lower.new.queue.items) at c.in_ok-lower.ensures.lowering));
}
