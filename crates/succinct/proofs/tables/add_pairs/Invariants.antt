use Rattle.std.proofs.Common.{map, take}
use Rattle.succinct.specs.Compression.{Adds, AddsWants, of_pair}
use Rattle.succinct.proofs.tables.add_pairs.Given as goal

abbrev pub invariant-loop-pair : goal.invariant-loop-pair
invariant-loop-pair l = record {
  numbers : Adds (map of_pair (take l.pair-index l.initial.pairs)) l.initial.tables.needs.keys l.initial.tables.kinds.keys l.initial.tables.kind_numbers l.tables.needs.keys l.tables.kinds.keys l.tables.kind_numbers;
  wants : AddsWants (map of_pair (take l.pair-index l.initial.pairs)) l.initial.tables.needs.keys l.initial.tables.wanted l.tables.needs.keys l.tables.wanted;
}
