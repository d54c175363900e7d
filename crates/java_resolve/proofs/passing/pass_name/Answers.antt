use Rattle.std.proofs.Common.{subst, [], IfOk}
use Rattle.java_resolve.specs.Pieces.{cut}
use Rattle.java_resolve.specs.Known.{Passes}
use Rattle.java_resolve.proofs.passing.pass_name.Goals as goal

pub returns : goal.returns
returns c = λ d bound k. subst (λ x. IfOk c.pass_text.result (Passes d (cut bound [] x) c.args.at.now c.pass_text.new.at)) c.as_str.ensures (c.pass_text.ensures d bound k)
