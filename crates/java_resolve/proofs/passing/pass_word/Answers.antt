use Rattle.std.proofs.Common.{refl}
use Rattle.java_resolve.proofs.Pieces.{over_known, over_unknown}
use Rattle.java_resolve.proofs.passing.pass_word.Goals as goal

pub returns-then-not-knows : goal.returns-then-not-knows
returns-then-not-knows c = λ d bound k. over_unknown d bound c.args.name.now c.args.at.now c.args.at.now c.knows.result (c.knows.ensures d bound k) c.if-not-knows.true refl

pub returns : goal.returns
returns c = λ d bound k. over_known d bound c.args.name.now c.as_str.result.now c.args.at.now c.advance.new.at c.knows.result (c.knows.ensures d bound k) c.if-not-knows.false c.as_str.utf8 c.as_str.ensures c.in_ok-advance.ensures.bytes
