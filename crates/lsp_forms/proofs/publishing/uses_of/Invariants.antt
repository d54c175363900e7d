use Rattle.std.proofs.Common.{◌≡◌, ◌+◌, length}
use Rattle.serde_json.specs.View.{items_view}
use Rattle.lsp_forms.specs.Commands.{pair_of, use_from_pair}
use Rattle.lsp_forms.specs.Params.{numbered}
use Rattle.lsp_forms.proofs.Lists.{from}
use Rattle.lsp_forms.proofs.publishing.uses_of.Given as goal

abbrev pub invariant-loop-value : goal.invariant-loop-value
invariant-loop-value l = numbered 13 (λ d. use_from_pair (pair_of d)) 0 (items_view l.values) ≡ from l.uses (numbered 13 (λ d. use_from_pair (pair_of d)) (0 + length l.uses) (items_view l.rest))

abbrev pub decreases-loop-value : goal.decreases-loop-value
decreases-loop-value l = length l.rest
