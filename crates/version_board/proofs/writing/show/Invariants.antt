use Rattle.std.proofs.Common.{◌≡◌, drop}
use Rattle.version_board.proofs.writing.show.Given as goal

abbrev pub invariant-loop : goal.invariant-loop
invariant-loop g l = (l.writer.desk.shown.value ≡ l.fn.writer.desk.shown.value) × (drop l.writer.behind l.writer.log.items ≡ drop l.fn.writer.behind l.fn.writer.log.items)
