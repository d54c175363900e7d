use Rattle.std.proofs.Common.{◌∙◌, ap}
use Rattle.std.proofs.lemmas.Result.{IfOk-weaker}
use Rattle.serde_json.specs.Data.{array}
use Rattle.serde_json.specs.View.{items_of, view}
use Rattle.lsp_forms.specs.Results.{item_answers}
use Rattle.lsp_forms.proofs.Answers.{numbers, page-is}
use Rattle.lsp_forms.proofs.results.make_list.Goals as goal

pub returns-clause-value : goal.returns-clause-value
returns-clause-value c =
    IfOk-weaker c.make_page.result _ _
    (λ v e. page-is c.args.cursor c.args.from c.args.grown c.args.last c.args.version c.args.items.now c.args.start c.args.end _ _ (view v) c.in_ok-state.ensures
    (c.in_ok-items.ensures ∙ ap (λ r. array (items_of (item_answers c.args.from r c.args.items.now))) c.in_ok-span.ensures) e) c.make_page.ensures

pub returns-clause-numbers : goal.returns-clause-numbers
returns-clause-numbers c =
    IfOk-weaker c.make_page.result _ _
    (λ v e. numbers c.args.cursor c.args.from c.args.grown c.args.last c.args.version c.args.items.now c.args.start c.args.end (view v)
    (page-is c.args.cursor c.args.from c.args.grown c.args.last c.args.version c.args.items.now c.args.start c.args.end _ _ (view v) c.in_ok-state.ensures
    (c.in_ok-items.ensures ∙ ap (λ r. array (items_of (item_answers c.args.from r c.args.items.now))) c.in_ok-span.ensures) e))
    c.make_page.ensures
