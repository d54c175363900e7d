use Rattle.std.proofs.Common.{◌≡◌, length}
use Rattle.serde_json.specs.View.{items_view}
use Rattle.lsp_forms.specs.Forms.{change_of}
use Rattle.lsp_forms.specs.Params.{each}
use Rattle.lsp_forms.proofs.Lists.{after}
use Rattle.lsp_forms.proofs.changes.changes_of.Given as goal

abbrev pub invariant-loop-value : goal.invariant-loop-value
invariant-loop-value l = each change_of (items_view l.values) ≡ after l.changes (each change_of (items_view l.rest))

abbrev pub decreases-loop-value : goal.decreases-loop-value
decreases-loop-value l = length l.rest
