use Rattle.std.proofs.Common.{List, map, take}
use Rattle.std.specs.Prelude.{string_bytes}
use Rattle.command_line.specs.Words.{Pair}
use Rattle.command_line.specs.Scanned.{Scanned}
use Rattle.command_line.proofs.words.read_serve.Given as goal

abbrev pub invariant-loop-word : goal.invariant-loop-word
invariant-loop-word l = (pairs : List Pair) × Scanned (take l.word-index (map string_bytes l.rest)) l.scan pairs
