use Rattle.std.proofs.Common.{◌≡◌, ◌++◌, ℕ, map, take}
use Rattle.succinct.specs.Compression.{of_pair}
use Rattle.certificates.proofs.tables.add_pairs.Given as goal

abbrev pub invariant-loop-pair : goal.invariant-loop-pair
invariant-loop-pair l = l.results.items ≡ l.initial.results.items ++ map (λ (p : ℕ × ℕ). (of_pair p).result) (take l.pair-index l.initial.pairs)
