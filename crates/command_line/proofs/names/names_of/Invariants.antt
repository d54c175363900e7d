use Rattle.std.proofs.Common.{map, take}
use Rattle.std.specs.Prelude.{string_bytes}
use Rattle.command_line.specs.Scanned.{Scanned, named}
use Rattle.command_line.proofs.names.names_of.Given as goal

abbrev pub invariant-loop-word : goal.invariant-loop-word
invariant-loop-word l = Scanned (take l.word-index (map string_bytes l.rest)) l.scan (map named l.names.items)
