use Rattle.std.proofs.Common.{◌≡◌, ◌++◌, drop}
use Rattle.std.specs.List.{flat_map}
use Rattle.sheets.specs.Writing.{ended, type_text}
use Rattle.sheets.proofs.writing.put_types.Given as goal

abbrev pub invariant-loop-name : goal.invariant-loop-name
invariant-loop-name l = l.text ++ flat_map (λ t. ended (type_text t)) (drop l.name-index l.types) ≡ l.fn.text ++ flat_map (λ t. ended (type_text t)) l.types
