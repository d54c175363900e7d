use Rattle.std.proofs.Common.{List, ℕ, subst, IsPermutation}
use Rattle.reconstruction.proofs.usable.write_usable.Goals as goal

pub returns : goal.returns
returns c = record { usable = record { are = subst (λ (l : List ℕ). IsPermutation l c.sort_by_floor.new.row.items) c.in_ok-gather.ensures.gathered c.sort_by_floor.ensures.same; rising = c.sort_by_floor.ensures.rising } }
