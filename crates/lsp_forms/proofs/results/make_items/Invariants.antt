use Rattle.std.proofs.Common.{◌≡◌, ◌+◌, ◌++◌, length, map}
use Rattle.serde_json.specs.View.{view}
use Rattle.lsp_forms.specs.Results.{item_answers}
use Rattle.lsp_forms.proofs.results.make_items.Given as goal

abbrev pub invariant-loop-item : goal.invariant-loop-item
invariant-loop-item l = item_answers l.from (view l.span) l.items ≡ map view l.values.items ++ item_answers (l.from + length l.values.items) (view l.span) l.rest

abbrev pub decreases-loop-item : goal.decreases-loop-item
decreases-loop-item l = length l.rest
