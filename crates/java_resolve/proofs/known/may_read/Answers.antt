use Rattle.std.proofs.Common.{◌∙◌, ap, ℕ, List}
use Rattle.std.specs.Str.{chars}
use Rattle.terms.specs.declared.parts.Parts.{Parts}
use Rattle.java_resolve.proofs.WordTests.{identifier_test}
use Rattle.java_resolve.proofs.known.may_read.Goals as goal

pub returns : goal.returns
returns c =
    let binder : Parts → List ℕ = λ g. g.binder in
    identifier_test c.as_str.result.now (chars c.args.env.now.binder) c.is_identifier.result c.as_str.utf8 (ap chars (c.as_str.ensures ∙ ap binder c.parts.ensures.value)) c.is_identifier.ensures.value
