use Rattle.std.proofs.Common.{rules, arith, ◌≡◌, ◌+◌, ◌∙◌, ap, sym, Err, length}
use Rattle.lsp_forms.specs.Commands.{pair_of, use_from_pair}
use Rattle.lsp_forms.specs.Params.{item_fault}
use Rattle.lsp_forms.proofs.Lists.{numbered-start, numbered-end, numbered-more, numbered-stop}
use Rattle.lsp_forms.proofs.publishing.uses_of.Goals as goal

pub loop-value-init : goal.loop-value-init
loop-value-init c = numbered-start 13 (λ d. use_from_pair (pair_of d)) 0 _ _ (search rules)

pub returns-in_default-2-clause-refusal : goal.returns-in_default-2-clause-refusal
returns-in_default-2-clause-refusal c =
    rw c.item_refused.ensures (numbered-stop 13 (λ d. use_from_pair (pair_of d)) 0 _ _ _ _ _ c.loop-value.invariant (c.in-Some.ensures.cases).0 (sym c.in_ok-found.ensures.found ∙ c.in_default-2.is)
    ∙ ap (λ k. Err (item_fault 13 k)) (omega (arith, c.len.ensures)))

pub loop-value-preserved : goal.loop-value-preserved
loop-value-preserved c = numbered-more 13 (λ d. use_from_pair (pair_of d)) 0 _ _ _ _ _ _ _ c.loop-value.invariant (c.in-Some.ensures.cases).0 (sym c.in_ok-found.ensures.found ∙ c.in-Some-2.is) c.in-Ok.ensures.ok

pub returns-clause-uses : goal.returns-clause-uses
returns-clause-uses c = numbered-end 13 (λ d. use_from_pair (pair_of d)) 0 _ _ _ c.loop-value.invariant c.in_default.ensures.cases
