use Rattle.std.proofs.Common.{◌≡◌, map, take}
use Rattle.serde_json.specs.View.{view}
use Rattle.lsp_forms.specs.Results.{whole_number}
use Rattle.lsp_forms.proofs.certificates.make_set.Given as goal

abbrev pub invariant-loop-number : goal.invariant-loop-number
invariant-loop-number l = map view l.values.items ≡ map whole_number (take l.number-index l.set)
