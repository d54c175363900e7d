use Rattle.std.proofs.Common.{◌≡◌, ◌≤◌, drop}
use Rattle.java_units.specs.Signs.{seen}
use Rattle.java_units.specs.Forms.{closing}
use Rattle.java_units.proofs.Walks.{past}
use Rattle.java_units.proofs.names.closing.Given as goal

abbrev pub invariant-loop-i : goal.invariant-loop-i
invariant-loop-i l = record {
  depth : l.depth ≤ l.i;
  rest : closing l.left l.right 0 (seen l.lexemes) ≡ past l.i (closing l.left l.right l.depth (drop l.i (seen l.lexemes)));
}
