use Rattle.std.proofs.Common.{◌≡◌, [], length, map, take, drop}
use Rattle.std.specs.BTreeSet.{keys}
use Rattle.terms.specs.Faults.{pairs_fault}
use Rattle.terms.specs.Table.{IsTable}
use Rattle.terms.proofs.above.sets_of.Given as goal

abbrev pub invariant-loop-i : goal.invariant-loop-i
invariant-loop-i l = record {
  table : IsTable (take l.i l.pairs) (map keys l.sets.items);
  len : length l.sets.items ≡ l.types;
  rest : pairs_fault l.types 0 [] l.pairs ≡ pairs_fault l.types l.i (take l.i l.pairs) (drop l.i l.pairs);
}
