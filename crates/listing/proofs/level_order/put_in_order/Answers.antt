use Rattle.std.proofs.Common.{rules, ap}
use Rattle.std.specs.Ordering.{is_lt}
use Rattle.std.proofs.lemmas.List.Sorted.{ranks_by, answers_always}
use Rattle.listing.specs.Found.{keyed_cmp}
use Rattle.listing.proofs.Orders.{keyed_total}
use Rattle.listing.proofs.level_order.put_in_order.Goals as goal

pub returns-clause-sorted : goal.returns-clause-sorted
returns-clause-sorted c = c.in_ok-sort_by.ensures.sorted (λ x y. is_lt (keyed_cmp x y)) (ranks_by keyed_total (λ x. x)) (answers_always _ _ _ (λ f a r g h. ap is_lt (search rules)))
