use Rattle.std.proofs.Common.{◌≡◌, length}
use Rattle.serde_json.specs.View.{items_view}
use Rattle.lsp_forms.specs.Commands.{counts, pair_of}
use Rattle.lsp_forms.specs.Params.{every}
use Rattle.lsp_forms.proofs.publishing.all_count.Given as goal

abbrev pub invariant-loop-value : goal.invariant-loop-value
invariant-loop-value l = every (λ d. counts (pair_of d)) (items_view l.values) ≡ every (λ d. counts (pair_of d)) (items_view l.rest)

abbrev pub decreases-loop-value : goal.decreases-loop-value
decreases-loop-value l = length l.rest
