use Rattle.std.proofs.Common.{◌∙◌, sym}
use Rattle.lsp_forms.proofs.Weighing.{refused-as, weights-missing, weights-wide, weights-refused, weights-set}
use Rattle.lsp_forms.proofs.weights.read_weights.Goals as goal

pub returns-then-not-are_numbers-clause-refusal : goal.returns-then-not-are_numbers-clause-refusal
returns-then-not-are_numbers-clause-refusal c = refused-as _ _ 1 c.refused.ensures (weights-missing _ (sym c.are_numbers.ensures ∙ c.if-not-are_numbers.true))

pub returns-in_default-clause-refusal : goal.returns-in_default-clause-refusal
returns-in_default-clause-refusal c =
    refused-as _ _ 2 c.refused-in_default.ensures (weights-wide _ (sym c.are_numbers.ensures ∙ c.if-not-are_numbers.false) (sym c.in_default.is ∙ c.weights_in.ensures))

pub returns-in-Some-checked-clause-form : goal.returns-in-Some-checked-clause-form
returns-in-Some-checked-clause-form c =
    weights-set _ c.in-Some.weights c.in-Some-checked.weights (sym c.are_numbers.ensures ∙ c.if-not-are_numbers.false) (sym c.in-Some.is ∙ c.weights_in.ensures) c.in-Some-checked.ensures.exact

pub returns-in-None-clause-refusal : goal.returns-in-None-clause-refusal
returns-in-None-clause-refusal c =
    refused-as _ _ 2 c.refused-in-None.ensures (weights-refused _ c.in-Some.weights (sym c.are_numbers.ensures ∙ c.if-not-are_numbers.false) (sym c.in-Some.is ∙ c.weights_in.ensures) c.in-None.ensures.exact)
