use Rattle.std.proofs.Common.{subst, arith}
use Rattle.weight_bounds.proofs.Steps.{relaxed}
use Rattle.weight_bounds.specs.Numbers.{args_cost, IsWithin, IsLowering}
use Rattle.weight_bounds.specs.Rules.{of_decl, source_rule}
use Rattle.weight_bounds.proofs.relaxation.relax_decl.Goals as goal

pub lower-requires : goal.lower-requires
lower-requires c = (let at = c.place_of.ensures.value in let low = c.requires.in_range in record { in_range = omega (arith, at, low) })

pub returns : goal.returns
returns c = record {
  relaxed = (
      let at = c.place_of.ensures.value in
      let g = c.args.setting.now.parts.now in
      let within = subst (λ xs. IsWithin c.args.setting.now.limit.value (args_cost g c.args.setting.now.limit.value c.args.numbers.now c.args.left c.args.decl.now.weight xs) c.args_cost-cost.result) c.as_slice.ensures c.args_cost-cost.ensures.value in
      relaxed g c.args.setting.now.limit.value (source_rule c.args.left (of_decl c.args.decl.now)) c.args.numbers.now c.lower.new.numbers c.args.queue.now.items c.lower.new.queue.items c.args_cost-cost.result c.requires.rule within c.requires.in_range
      (subst (λ i. IsLowering c.args.setting.now.limit.value i c.args_cost-cost.result c.args.numbers.now c.args.queue.now.items c.lower.new.numbers c.lower.new.queue.items) at c.in_ok-lower.ensures.lowering));
}
