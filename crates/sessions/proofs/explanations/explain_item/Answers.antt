use Rattle.std.proofs.Common.{rules, ◌≡◌, ◌∙◌, sym, subst, Some}
use Rattle.std.specs.Prelude.{IfOk, slice_get}
use Rattle.terms.specs.Faults.{IsValid}
use Rattle.terms.specs.Place.{IsInhabitant}
use Rattle.listing.specs.Found.{term_of}
use Rattle.answers.specs.Certificates.{spelled, certificate_data}
use Rattle.answers.specs.Cursors.{IsPageOf}
use Rattle.answers.specs.Replies.{reply_text, result}
use Rattle.sessions.proofs.Explained.{item_inhabits, item_some_by}
use Rattle.sessions.proofs.explanations.explain_item.Goals as goal

pub rows_reply-requires-clause-inhabitant : goal.rows_reply-requires-clause-inhabitant
rows_reply-requires-clause-inhabitant g c =
    let valid : IsValid c.args.cursor.now.env = subst IsValid (c.parts-parts.ensures.value ∙ c.env.ensures.same) c.parts-parts.ensures.valid in
    let first : slice_get c.in_ok-page.page.items 0 ≡ Some c.in-Some.item.now = search rules in
    subst (λ e. IsInhabitant e (term_of c.in-Some.item.now)) (sym c.env-in-Some.ensures.same)
    (item_inhabits c.args.cursor.now.env c.args.item c.in_ok-page.page c.in-Some.item.now valid c.in_ok-page.ensures.page first)

pub returns-in-Some-clause-told : goal.returns-in-Some-clause-told
returns-in-Some-clause-told g c =
    let first : slice_get c.in_ok-page.page.items 0 ≡ Some c.in-Some.item.now = search rules in
    let body : IfOk c.rows_reply.result (λ b. b.items ≡ reply_text (Some c.args.id.now) (result (certificate_data c.args.cursor.now.env (spelled (term_of c.in-Some.item.now))))) =
    subst (λ e. IfOk c.rows_reply.result (λ b. b.items ≡ reply_text (Some c.args.id.now) (result (certificate_data e (spelled (term_of c.in-Some.item.now)))))) c.env-in-Some.ensures.same c.rows_reply.ensures.body in
    item_some_by c.args.cursor.now c.args.item c.args.id.now c.in_ok-page.page c.in-Some.item.now c.rows_reply.result (search rules) c.in_ok-page.ensures.page first body
