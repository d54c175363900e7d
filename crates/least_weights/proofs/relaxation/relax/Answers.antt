use Rattle.std.proofs.Common.{◌≡◌, ◌+◌, ◌<◌, ◌∷◌, ℕ, length, set, slice_get, Some, sym, ap, subst, ◌∙◌, arith}
use Rattle.std.specs.List.Sorted.{IsPermutation}
use Rattle.terms.specs.Count.{total}
use Rattle.edges.specs.Edges.{Edge}
use Rattle.edges.proofs.Options.{there}
use Rattle.least_weights.specs.Numbers.{number_at, cost}
use Rattle.least_weights.proofs.Steps.{IsLowered, step-lower, settled-lower}
use Rattle.least_weights.proofs.relaxation.relax.Goals as goal
use Rattle.least_weights.proofs.relaxation.relax.Goals.{In_ok-lower}

pub lower-requires : goal.lower-requires
lower-requires c =
    let x = there c.args.edges.now c.args.edge c.requires.in_range in
    record { in_range = subst (λ s. s < length c.args.numbers.now.items) (sym (c.state-state.ensures.value x.0 x.1)) (c.requires.states c.args.edge x.0 x.1) }

-- what was done for the edge
lowered-by : (c : In_ok-lower) (e : Edge) → slice_get c.args.edges.now c.args.edge ≡ Some e → IsLowered c.args.limit.value e c.args.numbers.now.items c.lower.new.numbers.items c.args.queue.now.items c.lower.new.queue.items c.in-Some.cost
lowered-by c e at =
    let state = c.state-state.ensures.value e at in
    let before = c.number_at-before.ensures.value ∙ ap (λ l. number_at c.args.limit.value l c.state-state.result) c.as_slice-shown.ensures.value ∙ ap (number_at c.args.limit.value c.args.numbers.now.items) state in
    record {
      is_cost = c.in-Some.ensures.value.0 ∙ ap (λ w. w + total (number_at c.args.limit.value c.as_slice-shown.result.now) c.tails.result.now) (c.weight.ensures.value e at)
          ∙ ap (λ ts. e.weight + total (number_at c.args.limit.value c.as_slice-shown.result.now) ts) (c.tails.ensures.value e at) ∙ ap (λ l. cost c.args.limit.value l e) c.as_slice-shown.ensures.value;
      low = c.requires.states c.args.edge e at;
      less = omega (arith, before, c.if-before-cost.false);
      new_is = c.in_ok-lower.ensures.set ∙ ap (λ s. set c.args.numbers.now.items s c.in-Some.cost) state;
      queued = subst (λ s. IsPermutation {X = ℕ × ℕ} ((c.in-Some.cost, s) ∷ c.args.queue.now.items) c.lower.new.queue.items) state c.in_ok-lower.ensures.queued;
    }

pub returns-clause-step : goal.returns-clause-step
returns-clause-step c =
    let x = there c.args.edges.now c.args.edge c.requires.in_range in
    step-lower c.args.limit.value c.args.edges.now c.args.edge x.0 c.args.numbers.now.items c.lower.new.numbers.items c.args.queue.now.items c.lower.new.queue.items c.in-Some.cost x.1 (lowered-by c x.0 x.1)

pub returns-clause-settled : goal.returns-clause-settled
returns-clause-settled c e at = settled-lower c.args.limit.value c.args.edges.now c.args.edge e c.args.numbers.now.items c.lower.new.numbers.items c.args.queue.now.items c.lower.new.queue.items c.in-Some.cost at (lowered-by c e at)
