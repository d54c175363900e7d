use Rattle.std.proofs.Common.{[], ◌∷◌, arith}
use Rattle.type_names.proofs.OrderLaws.{parted}
use Rattle.type_names.proofs.order.compare_names.Goals as goal

pub returns : goal.returns
returns c =
    rw (c.then.ensures, c.cmp.ensures, c.compare_ends.ensures, c.split_at.ensures.front, c.split_at.ensures.back, c.split_at-2.ensures.front, c.split_at-2.ensures.back)
    (parted c.min-common.result c.args.name.now c.args.other.now (59 ∷ []) (omega (arith, c.min-common.ensures)) (omega (arith, c.min-common.ensures)))
