use Rattle.std.proofs.Common.{arith}
use Rattle.terms.proofs.Valid.{valid-depth}
use Rattle.certificates.proofs.tables.patterns_of.Goals as goal

pub derive-requires : goal.derive-requires
derive-requires c = (let deep = valid-depth c.parts-parts.result.now c.parts-parts.ensures.valid in record { in_range = omega (arith, deep) })
