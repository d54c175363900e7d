use Rattle.std.proofs.Common.{◌≡◌, ◌∙◌, ap, sym, subst, true, ℕ, List, IsUtf8}
use Rattle.std.specs.Str.{chars}
use Rattle.terms.specs.declared.parts.Parts.{Parts}
use Rattle.java_shapes.specs.Readable.{IsReadable}
use Rattle.java_resolve.specs.Readable.{AreDeclsReadable}
use Rattle.java_resolve.proofs.WordTests.{identifier_test}
use Rattle.java_resolve.proofs.TextFacts.{if_map}
use Rattle.java_resolve.proofs.Readables.{readable_of}
use Rattle.java_resolve.proofs.readable.may_resolve.Goals as goal

pub returns-then-not-is_identifier-clause-no : goal.returns-then-not-is_identifier-clause-no
returns-then-not-is_identifier-clause-no c =
    let binder : Parts → List ℕ = λ g. g.binder in
    λ h. sym c.if-not-is_identifier.true ∙ identifier_test c.as_str.result.now (chars c.args.env.now.binder) c.is_identifier.result c.as_str.utf8 (ap chars (c.as_str.ensures ∙ ap binder c.parts-parts.ensures.value)) c.is_identifier.ensures.value ∙ h.binder

pub returns-clause-yes : goal.returns-clause-yes
returns-clause-yes c =
    let binder : Parts → List ℕ = λ g. g.binder in
    let same = c.as_str.ensures ∙ ap binder c.parts-parts.ensures.value in
    if_map (λ r. r ≡ true → AreDeclsReadable c.parts-parts.result.now c.as_slice.result.now) (λ r. r ≡ true → IsReadable c.args.env.now) c.are_decls_readable.result
    (λ r h q. readable_of c.args.env.now c.parts-parts.result.now c.as_slice.result.now c.parts-parts.ensures.value c.as_slice.ensures (h q) (subst IsUtf8 same c.as_str.utf8)
    (sym (identifier_test c.as_str.result.now (chars c.args.env.now.binder) c.is_identifier.result c.as_str.utf8 (ap chars same) c.is_identifier.ensures.value) ∙ c.if-not-is_identifier.false))
    c.are_decls_readable.ensures.yes
