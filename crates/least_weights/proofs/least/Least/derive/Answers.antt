use Rattle.std.proofs.Common.{length, ap, subst, arith}
use Rattle.terms.specs.Faults.{IsValid}
use Rattle.terms.specs.declared.parts.Parts.{Parts}
use Rattle.terms.proofs.Valid.{valid-limit, valid-depth}
use Rattle.least_weights.proofs.Leasts.{are-least}
use Rattle.least_weights.proofs.least.Least.derive.Goals as goal

pub invariant_of-most : goal.invariant_of-most
invariant_of-most c =
    let bound = (valid-limit c.parts.result.now c.parts.ensures.valid).1 in
    let same = ap (λ (g : Parts). g.limit) c.parts.ensures.value in
    record { small = omega (arith, bound, same, c.requires.limit) }

pub solve-requires : goal.solve-requires
solve-requires c = record {
  states = λ m e at. (let low = c.requires.edges.in_range m e at in let count = ap length c.states-count.ensures.value in omega (arith, low, count));
}

pub returns : goal.returns
returns c =
    let valid : IsValid c.args.env.now = subst (λ (g : Parts). IsValid g) c.parts.ensures.value c.parts.ensures.valid in
    let depth = valid-depth c.args.env.now valid in
    record { least = are-least c.args.env.now c.args.compressed.now c.args.patterns.now c.args.edges.now c.in_ok-numbers.numbers.items c.args.limit (length c.states-count.result.now) valid c.requires.compressed c.requires.patterns.1 (omega (arith, depth)) c.requires.limit (ap length c.states-count.ensures.value) c.requires.edges c.in_ok-numbers.ensures.as_many c.in_ok-numbers.ensures.solution }
