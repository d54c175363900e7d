use Rattle.std.proofs.Common.{◌∙◌, eqb}
use Rattle.std.proofs.lemmas.List.Filters.{dedup_is}
use Rattle.succinct.proofs.Rising.{sorted_set}
use Rattle.succinct.proofs.sets.make_set.Goals as goal

pub returns : goal.returns
returns c = record { set = dedup_is eqb _ _ c.dedup.ensures.filtered ∙ sorted_set _ _ c.sort_unstable.ensures.permutation c.sort_unstable.ensures.sorted }
