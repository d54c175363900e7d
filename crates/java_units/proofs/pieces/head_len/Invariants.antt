use Rattle.std.proofs.Common.{◌≡◌, ◌≤◌, ◌+◌, drop, false}
use Rattle.java_units.specs.Signs.{seen}
use Rattle.java_units.specs.Pieces.{head_len}
use Rattle.java_units.proofs.pieces.head_len.Given as goal

abbrev pub invariant-loop-i : goal.invariant-loop-i
invariant-loop-i l = record {
  depth : l.depth ≤ l.i;
  rest : head_len 0 false (seen l.lexemes) ≡ l.i + head_len l.depth l.set (drop l.i (seen l.lexemes));
}
