use Rattle.std.proofs.Common.{rules, ◌≡◌, ◌+◌, ◌∙◌, ap, sym, Err, length}
use Rattle.serde_json.specs.Find.{as_str}
use Rattle.lsp_forms.specs.Commands.{path_from_text}
use Rattle.lsp_forms.specs.Params.{item_fault}
use Rattle.lsp_forms.proofs.Lists.{numbered-start, numbered-end, numbered-more, numbered-stop}
use Rattle.lsp_forms.proofs.publishing.paths_of.Goals as goal

pub loop-value-init : goal.loop-value-init
loop-value-init c = numbered-start 8 (λ d. path_from_text (as_str d)) c.args.from _ _ (search rules)

pub returns-in_default-2-clause-refusal : goal.returns-in_default-2-clause-refusal
returns-in_default-2-clause-refusal c =
    rw c.item_refused.ensures (numbered-stop 8 (λ d. path_from_text (as_str d)) c.args.from _ _ _ _ _ c.loop-value.invariant (c.in-Some.ensures.cases).0 (sym c.in_ok-path.ensures.path ∙ c.in_default-2.is)
    ∙ ap (λ k. Err (item_fault 8 (c.args.from + k))) (sym c.len.ensures))

pub loop-value-preserved : goal.loop-value-preserved
loop-value-preserved c = numbered-more 8 (λ d. path_from_text (as_str d)) c.args.from _ _ _ _ _ _ _ c.loop-value.invariant (c.in-Some.ensures.cases).0 (sym c.in_ok-path.ensures.path ∙ c.in-Some-2.is) c.in-Ok.ensures.ok

pub returns-clause-paths : goal.returns-clause-paths
returns-clause-paths c = numbered-end 8 (λ d. path_from_text (as_str d)) c.args.from _ _ _ c.loop-value.invariant c.in_default.ensures.cases
