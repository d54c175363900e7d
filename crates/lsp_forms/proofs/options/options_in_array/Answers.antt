use Rattle.std.proofs.Common.{rules, tests, ◌∙◌, sym, ◌<◌, length, Some, subst}
use Rattle.json_rpc.specs.declared.message.Refused.{Refused}
use Rattle.serde_json.specs.Data.{array}
use Rattle.serde_json.specs.View.{items_view}
use Rattle.lsp_forms.specs.Forms.{initialize_from}
use Rattle.lsp_forms.specs.Params.{FaultedAs}
use Rattle.lsp_forms.specs.declared.forms.ParamFault.{ParamFault}
use Rattle.lsp_forms.proofs.Arrays.{array-empty, array-full}
use Rattle.lsp_forms.proofs.options.options_in_array.Goals as goal

pub returns-then-is_empty-clause-form : goal.returns-then-is_empty-clause-form
returns-then-is_empty-clause-form c = array-empty c.args.items.now (search (rules, tests)) ∙ sym c.defaults.ensures

pub returns-clause-refusal : goal.returns-clause-refusal
returns-clause-refusal c =
    let some : 0 < length c.args.items.now = search (rules, tests) in
    let P : Refused ParamFault → Type 0 = λ r. FaultedAs (initialize_from (Some (array (items_view c.args.items.now)))) r in
    subst P (sym c.refused.ensures) (array-full c.args.items.now some)
