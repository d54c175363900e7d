use Rattle.std.proofs.Common.{rules}
use Rattle.lsp_forms.specs.Forms.{completion_at, completion_from}
use Rattle.lsp_forms.specs.Params.{member_of, text_of, whole}
use Rattle.lsp_forms.proofs.Refusals.{handed_on}
use Rattle.lsp_forms.proofs.documents.read_completion.Goals as goal

pub returns-clause-refusal : goal.returns-clause-refusal
unfolding completion_from text_of completion_at member_of whole
returns-clause-refusal c = handed_on _ _ _ (search rules) c.completion_at.ensures.refusal
