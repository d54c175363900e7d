use Rattle.std.proofs.Common.{◌≡◌, ◌≤◌, ◌+◌, drop}
use Rattle.java_units.specs.Signs.{seen}
use Rattle.java_units.specs.Forms.{rest_len}
use Rattle.java_units.proofs.entries.rest_len.Given as goal

abbrev pub invariant-loop-i : goal.invariant-loop-i
invariant-loop-i l = record {
  depth : l.depth ≤ l.i;
  rest : rest_len 0 (seen l.lexemes) ≡ l.i + rest_len l.depth (drop l.i (seen l.lexemes));
}
