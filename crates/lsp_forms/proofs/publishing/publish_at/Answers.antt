use Rattle.std.proofs.Common.{rules, ◌≡◌, ◌∙◌, sym, true}
use Rattle.serde_json.specs.View.{items_view}
use Rattle.lsp_forms.proofs.Published.{publish-right, handed_over}
use Rattle.lsp_forms.proofs.Refusals.{handed_on}
use Rattle.lsp_forms.proofs.publishing.publish_at.Goals as goal

pub returns-clause-form : goal.returns-clause-form
returns-clause-form c =
    let right : c.are_right.result ≡ true = search rules in
    let count : c.all_count.result ≡ true = search rules in
    handed_over _ _ c.published.result
    (publish-right c.args.puts.now (items_view c.args.removes.now) (items_view c.args.counted.now) (items_view c.args.sources.now) (items_view c.args.known.now) (sym c.are_right.ensures ∙ right) (sym c.all_count.ensures ∙ count))
    c.published.ensures.form

pub returns-clause-refusal : goal.returns-clause-refusal
returns-clause-refusal c =
    let right : c.are_right.result ≡ true = search rules in
    let count : c.all_count.result ≡ true = search rules in
    handed_on _ _ c.published.result
    (publish-right c.args.puts.now (items_view c.args.removes.now) (items_view c.args.counted.now) (items_view c.args.sources.now) (items_view c.args.known.now) (sym c.are_right.ensures ∙ right) (sym c.all_count.ensures ∙ count))
    c.published.ensures.refusal
