use Rattle.std.proofs.Common.{arith}
use Rattle.terms.proofs.Valid.{valid-limit}
use Rattle.certificates.proofs.tables.Tables.number_of.Goals as goal

pub overflow_add-result : goal.overflow_add-result
overflow_add-result c = (let low = valid-limit c.parts.result.now c.parts.ensures.valid in omega (arith, low.1))
