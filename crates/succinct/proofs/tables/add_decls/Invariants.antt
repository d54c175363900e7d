use Rattle.std.proofs.Common.{map, take}
use Rattle.succinct.specs.Compression.{Adds, AddsWants, of_decl}
use Rattle.succinct.proofs.tables.add_decls.Given as goal

abbrev pub invariant-loop-decl : goal.invariant-loop-decl
invariant-loop-decl l = record {
  numbers : Adds (map of_decl (take l.decl-index l.initial.decls)) l.initial.tables.needs.keys l.initial.tables.kinds.keys l.initial.tables.kind_numbers l.tables.needs.keys l.tables.kinds.keys l.tables.kind_numbers;
  wants : AddsWants (map of_decl (take l.decl-index l.initial.decls)) l.initial.tables.needs.keys l.initial.tables.wanted l.tables.needs.keys l.tables.wanted;
}
