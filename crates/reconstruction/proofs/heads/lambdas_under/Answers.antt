use Rattle.std.proofs.Common.{◌∙◌, ap}
use Rattle.reconstruction.specs.Totals.{lambdas_by}
use Rattle.reconstruction.proofs.heads.lambdas_under.Goals as goal

pub returns : goal.returns
returns c = record { value = c.lambdas_by.ensures.value ∙ ap (λ l. lambdas_by l c.args.lambdas c.args.decl) c.wanted_by.ensures.value }
