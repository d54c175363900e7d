use Rattle.std.proofs.Common.{rules, arith, ◌≡◌, ◌+◌, ◌∙◌, ap, sym, Err, length}
use Rattle.serde_json.specs.Find.{as_str}
use Rattle.lsp_forms.specs.Commands.{name_from_text}
use Rattle.lsp_forms.specs.Params.{item_fault}
use Rattle.lsp_forms.proofs.Lists.{numbered-start, numbered-end, numbered-more, numbered-stop}
use Rattle.lsp_forms.proofs.publishing.names_of.Goals as goal

pub loop-value-init : goal.loop-value-init
loop-value-init c = numbered-start c.args.cause (λ d. name_from_text (as_str d)) 0 _ _ (search rules)

pub returns-in_default-2-clause-refusal : goal.returns-in_default-2-clause-refusal
returns-in_default-2-clause-refusal c =
    rw c.item_refused.ensures (numbered-stop c.args.cause (λ d. name_from_text (as_str d)) 0 _ _ _ _ _ c.loop-value.invariant (c.in-Some.ensures.cases).0 (sym c.in_ok-name.ensures.name ∙ c.in_default-2.is)
    ∙ ap (λ k. Err (item_fault c.args.cause k)) (omega (arith, c.len.ensures)))

pub loop-value-preserved : goal.loop-value-preserved
loop-value-preserved c = numbered-more c.args.cause (λ d. name_from_text (as_str d)) 0 _ _ _ _ _ _ _ c.loop-value.invariant (c.in-Some.ensures.cases).0 (sym c.in_ok-name.ensures.name ∙ c.in-Some-2.is) c.in-Ok.ensures.ok

pub returns-clause-names : goal.returns-clause-names
returns-clause-names c = numbered-end c.args.cause (λ d. name_from_text (as_str d)) 0 _ _ _ c.loop-value.invariant c.in_default.ensures.cases
