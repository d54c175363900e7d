use Rattle.java_resolve.proofs.Pieces.{known_else, known_then}
use Rattle.java_resolve.proofs.passing.knows.Goals as goal

pub returns-then-not-is_identifier : goal.returns-then-not-is_identifier
returns-then-not-is_identifier c = λ d bound k. known_else d bound c.args.name.now c.is_identifier.result c.is_identifier.ensures c.if-not-is_identifier.true

pub returns : goal.returns
returns c = λ d bound k. known_then c.args.set.now d bound c.args.name.now c.as_str.result.now c.is_identifier.result c.contains.result c.is_identifier.ensures c.if-not-is_identifier.false c.as_str.utf8 c.as_str.ensures c.contains.ensures k
