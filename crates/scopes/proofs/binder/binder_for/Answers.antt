use Rattle.std.proofs.Common.{replicate, ◌∙◌, ap}
use Rattle.scopes.proofs.Runs.{binder_free}
use Rattle.scopes.proofs.binder.binder_for.Goals as goal

pub returns : goal.returns
returns c = λ words e. c.in_ok-text.ensures ∙ (ap (λ n. replicate n 112) c.in_ok-n.ensures ∙ binder_free c.args.runs.now words e)
