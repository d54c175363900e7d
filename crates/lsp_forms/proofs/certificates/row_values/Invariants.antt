use Rattle.std.proofs.Common.{◌≡◌, map, take}
use Rattle.serde_json.specs.View.{view}
use Rattle.lsp_forms.specs.Certificates.{row_answer}
use Rattle.lsp_forms.proofs.certificates.row_values.Given as goal

abbrev pub invariant-loop-row : goal.invariant-loop-row
invariant-loop-row l = map view l.values.items ≡ map row_answer (take l.row-index l.rows)
