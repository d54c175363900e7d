use Rattle.std.proofs.Common.{◌≡◌, ◌≤◌, ◌+◌, drop}
use Rattle.java_units.specs.Signs.{seen}
use Rattle.java_units.specs.Forms.{up_to}
use Rattle.java_units.proofs.entries.up_to.Given as goal

abbrev pub invariant-loop-i : goal.invariant-loop-i
invariant-loop-i l = record {
  depth : l.depth ≤ l.i;
  rest : up_to l.word 0 (seen l.lexemes) ≡ l.i + up_to l.word l.depth (drop l.i (seen l.lexemes));
}
