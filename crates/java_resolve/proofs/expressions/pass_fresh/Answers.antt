use Rattle.java_resolve.proofs.expressions.pass_fresh.Goals as goal

pub returns : goal.returns
returns c = λ d. c.in_ok-pass_sign.ensures d
