use Rattle.offers.proofs.Descriptors.{same-by}
use Rattle.offers.proofs.types.same_type.Goals as goal

pub returns : goal.returns
returns c = same-by c.args.a.now c.args.b.now c.same.result c.same.ensures.is
