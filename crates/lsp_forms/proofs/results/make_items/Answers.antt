use Rattle.std.proofs.Common.{◌≡◌, ◌∙◌, ◌+◌, ap, length, rules}
use Rattle.serde_json.specs.Data.{array}
use Rattle.serde_json.specs.View.{items_of}
use Rattle.serde_json.proofs.Views.{view-Array}
use Rattle.serde_json.specs.View.{view}
use Rattle.lsp_forms.specs.Results.{item_answer}
use Rattle.lsp_forms.proofs.Answers.{answers-end, answers-more}
use Rattle.lsp_forms.proofs.results.make_items.Goals as goal

pub loop-item-preserved : goal.loop-item-preserved
loop-item-preserved c =
    let counted : c.len.result ≡ length c.loop-item.values.items = search rules in
    answers-more c.args.from _ _ _ _ _ _ _ _ c.loop-item.invariant (c.in-Some.ensures.cases).0
    (c.in_ok-make_item.ensures ∙ ap (λ n. item_answer (c.args.from + n) (view c.args.span.now) c.in-Some.item.now) counted) c.in_ok-push.ensures.items

pub returns : goal.returns
returns c = view-Array c.loop-item.values ∙ ap (λ ds. array (items_of ds)) (answers-end c.args.from _ _ _ _ c.loop-item.invariant c.in_default.ensures.cases)
