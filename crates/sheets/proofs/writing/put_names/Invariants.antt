use Rattle.std.proofs.Common.{◌≡◌, ◌++◌, drop}
use Rattle.std.specs.List.{flat_map}
use Rattle.sheets.specs.Writing.{spaced, name_of}
use Rattle.sheets.proofs.writing.put_names.Given as goal

abbrev pub invariant-loop-number : goal.invariant-loop-number
invariant-loop-number l = l.text ++ flat_map (λ n. spaced (name_of l.types n)) (drop l.number-index l.numbers) ≡ l.fn.text ++ flat_map (λ n. spaced (name_of l.types n)) l.numbers
