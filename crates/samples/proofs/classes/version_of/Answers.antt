use Rattle.std.proofs.Common.{rules, ◌≡◌, IfOk, subst}
use Rattle.samples.specs.Samples.{publication_of, IsLawful}
use Rattle.samples.proofs.classes.version_of.Goals as goal

pub returns-clause-lawful : goal.returns-clause-lawful
returns-clause-lawful c =
    let is : c.publication-change.result ≡ publication_of c.args.shapes.now = search rules in
    subst (λ change. IfOk c.version_after.result (λ _. IsLawful change)) is c.version_after.ensures.lawful
