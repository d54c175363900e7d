use Rattle.std.proofs.Common.{◌≡◌, drop}
use Rattle.version_board.proofs.writing.append.Given as goal

abbrev pub invariant-loop : goal.invariant-loop
invariant-loop g l = (l.next ≡ l.fn.next) × (l.writer.desk ≡ l.initial.writer.desk) × (drop l.writer.behind l.writer.log.items ≡ drop l.initial.writer.behind l.initial.writer.log.items)
