use Rattle.std.proofs.Common.{arith}
use Rattle.reconstruction.proofs.Contexts.{valid-rows}
use Rattle.reconstruction.proofs.tables.patterns_for.Goals as goal

pub derive-requires : goal.derive-requires
derive-requires c = (let deep = valid-rows c.parts-parts.result.now c.parts-parts.ensures.valid in record { in_range = omega (arith, deep) })
