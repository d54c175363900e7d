use Rattle.std.proofs.Common.{◌≡◌, ◌∙◌, ap, subst, List}
use Rattle.type_names.specs.declared.kinds.Erased.{Erased}
use Rattle.offers.specs.Views.{Outlook, scene}
use Rattle.scopes.specs.Declarations.{decls_of}
use Rattle.scopes.specs.Environments.{parts_by}
use Rattle.scopes.proofs.Making.{seen-rises, made}
use Rattle.scopes.proofs.hole.parts.Goals as goal

pub new-requires : goal.new-requires
new-requires c = seen-rises (scene c.args.view.now) c.in_ok-seen.seen.members c.in_ok-seen.seen.faces (record { types = c.in_ok-seen.seen.types.items; void = c.in_ok-seen.seen.void }) c.deref.result.now c.deref.ensures.value c.in_ok-seen.ensures

pub returns : goal.returns
returns c =
    made (scene c.args.view.now) c.in_ok-seen.seen.members c.in_ok-seen.seen.faces (record { types = c.in_ok-seen.seen.types.items; void = c.in_ok-seen.seen.void }) c.in_ok-numbers.numbers c.in_ok-decls.decls c.in_ok-parts.parts c.args.limit c.args.depth c.in_ok-seen.ensures
    (c.in_ok-numbers.ensures ∙ ap (λ (ts : List Erased). record { types = ts; void = c.in_ok-seen.seen.void }) c.deref.ensures.value)
    (subst (λ (o : Outlook). c.in_ok-decls.decls ≡ decls_of (scene o) c.in_ok-numbers.numbers c.in_ok-seen.seen.members c.in_ok-seen.seen.faces) c.in_ok-spellings.ensures c.in_ok-decls.ensures)
    (subst (λ (o : Outlook). c.in_ok-parts.parts ≡ parts_by (scene o) c.in_ok-numbers.numbers c.in_ok-decls.decls c.args.limit c.args.depth) c.in_ok-spellings.ensures c.in_ok-parts.ensures)
