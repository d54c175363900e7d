use Rattle.std.proofs.Common.{◌<◌, length, subst}
use Rattle.succinct.proofs.Numberings.{grown-call, one_more}
use Rattle.succinct.proofs.numbering.number_of.Goals as goal

pub returns-then-index-lt4294967296-clause-one_more : goal.returns-then-index-lt4294967296-clause-one_more
returns-then-index-lt4294967296-clause-one_more g c j low high = one_more _ c.args.table.now.keys c.args.key c.in-Ok.found.0 j c.in-Ok.ensures.index low (subst (λ l. j < length l) c.in-Ok.ensures.keys high)

pub returns-clause-grown : goal.returns-clause-grown
returns-clause-grown g c = grown-call c.insert_full.result _ _ c.args.key _ c.insert_full.ensures.keys c.insert_full.ensures.err
