use Rattle.std.proofs.Common.{◌≡◌, ◌+◌, length}
use Rattle.serde_json.specs.View.{items_view}
use Rattle.serde_json.specs.Find.{as_str}
use Rattle.lsp_forms.specs.Commands.{path_from_text}
use Rattle.lsp_forms.specs.Params.{numbered}
use Rattle.lsp_forms.proofs.Lists.{from}
use Rattle.lsp_forms.proofs.publishing.paths_of.Given as goal

abbrev pub invariant-loop-value : goal.invariant-loop-value
invariant-loop-value l = numbered 8 (λ d. path_from_text (as_str d)) l.from (items_view l.values) ≡ from l.paths (numbered 8 (λ d. path_from_text (as_str d)) (l.from + length l.paths) (items_view l.rest))

abbrev pub decreases-loop-value : goal.decreases-loop-value
decreases-loop-value l = length l.rest
