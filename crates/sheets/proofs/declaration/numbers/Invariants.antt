use Rattle.std.proofs.Common.{◌≡◌, take, drop, map}
use Rattle.std.specs.List.{list_all}
use Rattle.sheets.specs.Words.{texts, has, index_of}
use Rattle.sheets.proofs.declaration.numbers.Given as goal

abbrev pub invariant-loop-text : goal.invariant-loop-text
invariant-loop-text l = record {
  taken : l.all ≡ map (index_of l.names) (texts (take l.text-index l.words));
  rest : list_all (has l.names) (texts l.words) ≡ list_all (has l.names) (texts (drop l.text-index l.words));
}
