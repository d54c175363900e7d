use Rattle.std.proofs.Common.{sym, subst}
use Rattle.std.specs.List.Sorted.{IsNonDecreasing}
use Rattle.terms.proofs.above.is_pair.Goals as goal

pub is_in_row-requires : goal.is_in_row-requires
is_in_row-requires c = subst (λ row. IsNonDecreasing row) (sym c.row_at.ensures) (c.requires.rising c.args.lower)
