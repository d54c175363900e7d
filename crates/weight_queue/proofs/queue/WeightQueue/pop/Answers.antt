use Rattle.std.proofs.lemmas.List.Sorted.{IsPermutation-map}
use Rattle.weight_queue.proofs.Queues.{pair, above}
use Rattle.weight_queue.proofs.queue.WeightQueue.pop.Goals as goal

pub returns-in-Some-clause-taken : goal.returns-in-Some-clause-taken
returns-in-Some-clause-taken g c = rw (← c.self.view_is) (IsPermutation-map pair _ _ c.in-Some.ensures.permutation)

pub returns-in-Some-clause-least : goal.returns-in-Some-clause-least
returns-in-Some-clause-least g c = above c.in-Some.field-0 _ (c.in-Some.ensures.below_top c.self.invariant)
