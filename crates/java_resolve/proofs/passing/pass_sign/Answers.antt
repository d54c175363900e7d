use Rattle.java_resolve.proofs.Adding.{on_ok}
use Rattle.java_resolve.proofs.Pieces.{over_sign}
use Rattle.java_resolve.proofs.passing.pass_sign.Goals as goal

pub returns : goal.returns
returns c = λ d. on_ok c.advance.result (over_sign d c.args.text.now c.args.at.now c.advance.new.at c.requires) c.advance.ensures.bytes
