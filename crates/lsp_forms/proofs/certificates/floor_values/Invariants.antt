use Rattle.std.proofs.Common.{◌≡◌, map, take}
use Rattle.serde_json.specs.View.{view}
use Rattle.lsp_forms.specs.Certificates.{floor_answer}
use Rattle.lsp_forms.proofs.certificates.floor_values.Given as goal

abbrev pub invariant-loop-floor : goal.invariant-loop-floor
invariant-loop-floor l = map view l.values.items ≡ map floor_answer (take l.floor-index l.floors)
