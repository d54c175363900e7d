use Rattle.std.proofs.Common.{ℕ, ◌∷◌, ◌∙◌, arith}
use Rattle.std.proofs.lemmas.List.Sorted.{length_permutation}
use Rattle.weight_bounds.proofs.solving.empty_queue.Goals as goal

pub loop-key-smaller : goal.loop-key-smaller
loop-key-smaller c =
    let x : ℕ × ℕ = (c.in-Some.key, c.in-Some.place) in
    let popped = length_permutation c.loop-key.queue.items (x ∷ c.pop.new.self.items) c.in-Some.ensures.taken in
    let falls = c.in_ok-go_on.ensures.step.falls in
    omega (arith, popped, falls)

pub loop-key-preserved : goal.loop-key-preserved
loop-key-preserved c = record {
  settled = c.in_ok-go_on.ensures.settled c.loop-key.queue.items c.in-Some.ensures.taken c.loop-key.invariant.settled;
  supported = c.in_ok-go_on.ensures.step.supported c.loop-key.invariant.supported;
  as_many = c.in_ok-go_on.ensures.step.as_many ∙ c.loop-key.invariant.as_many;
}
