use Rattle.std.proofs.Common.{refl, arith}
use Rattle.terms.proofs.Valid.{valid-limit}
use Rattle.weight_bounds.proofs.Bounded.{least-of, low-of, deeper-of}
use Rattle.weight_bounds.proofs.bounds.WeightBounds.derive.Goals as goal

pub invariant_of-limit : goal.invariant_of-limit
invariant_of-limit c = (let bound = (valid-limit c.parts-parts.result.now c.parts-parts.ensures.valid).1 in record { small = omega (arith, bound) })

pub returns : goal.returns
returns c = record {
  least = least-of c.parts-parts.result.now c.args.env.now c.parts-parts.result.now.limit c.in_ok-numbers.numbers.items c.parts-parts.ensures.valid c.parts-parts.ensures.value refl c.in_ok-numbers.ensures.solution;
  low = low-of c.parts-parts.result.now c.args.env.now c.parts-parts.result.now.limit c.in_ok-numbers.numbers.items c.parts-parts.ensures.valid c.parts-parts.ensures.value refl c.in_ok-numbers.ensures.solution;
  deeper = deeper-of c.parts-parts.result.now c.args.env.now c.parts-parts.result.now.limit c.in_ok-numbers.numbers.items c.parts-parts.ensures.valid c.parts-parts.ensures.value refl c.in_ok-numbers.ensures.solution;
}
