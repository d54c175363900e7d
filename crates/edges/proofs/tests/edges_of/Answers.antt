use Rattle.std.proofs.Common.{arith}
use Rattle.terms.proofs.Valid.{valid-depth}
use Rattle.edges.proofs.tests.edges_of.Goals as goal

pub derive-requires : goal.derive-requires
derive-requires c = (let depth = valid-depth c.parts-shown.result.now c.parts-shown.ensures.valid in record { in_range = omega (arith, depth) })
