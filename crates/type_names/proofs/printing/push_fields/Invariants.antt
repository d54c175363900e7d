use Rattle.std.proofs.Common.{◌≡◌, ◌++◌, take}
use Rattle.std.specs.List.{flat_map}
use Rattle.type_names.specs.Descriptors.{field}
use Rattle.type_names.proofs.printing.push_fields.Given as goal

abbrev pub invariant-loop-kind : goal.invariant-loop-kind
invariant-loop-kind l = l.text ≡ l.initial.text ++ flat_map field (take l.kind-index l.kind-items)
