use Rattle.std.proofs.Common.{◌≡◌, length}
use Rattle.serde_json.specs.View.{items_view}
use Rattle.lsp_forms.specs.Commands.{is_text}
use Rattle.lsp_forms.specs.Params.{every}
use Rattle.lsp_forms.proofs.publishing.are_texts.Given as goal

abbrev pub invariant-loop-value : goal.invariant-loop-value
invariant-loop-value l = every is_text (items_view l.values) ≡ every is_text (items_view l.rest)

abbrev pub decreases-loop-value : goal.decreases-loop-value
decreases-loop-value l = length l.rest
