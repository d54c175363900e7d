use Rattle.std.proofs.Common.{◌≡◌, ◌+◌, length}
use Rattle.serde_json.specs.View.{items_view}
use Rattle.serde_json.specs.Find.{as_str}
use Rattle.lsp_forms.specs.Commands.{name_from_text}
use Rattle.lsp_forms.specs.Params.{numbered}
use Rattle.lsp_forms.proofs.Lists.{from}
use Rattle.lsp_forms.proofs.publishing.names_of.Given as goal

abbrev pub invariant-loop-value : goal.invariant-loop-value
invariant-loop-value l = numbered l.cause (λ d. name_from_text (as_str d)) 0 (items_view l.values) ≡ from l.names (numbered l.cause (λ d. name_from_text (as_str d)) (0 + length l.names) (items_view l.rest))

abbrev pub decreases-loop-value : goal.decreases-loop-value
decreases-loop-value l = length l.rest
