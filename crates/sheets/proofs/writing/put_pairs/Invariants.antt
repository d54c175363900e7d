use Rattle.std.proofs.Common.{◌≡◌, ◌++◌, drop}
use Rattle.std.specs.List.{flat_map}
use Rattle.sheets.specs.Writing.{ended, pair_text}
use Rattle.sheets.proofs.writing.put_pairs.Given as goal

abbrev pub invariant-loop-pair : goal.invariant-loop-pair
invariant-loop-pair l = l.text ++ flat_map (λ p. ended (pair_text l.types p)) (drop l.pair-index l.pairs) ≡ l.fn.text ++ flat_map (λ p. ended (pair_text l.types p)) l.pairs
