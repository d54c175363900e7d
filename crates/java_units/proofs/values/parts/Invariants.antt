use Rattle.std.proofs.Common.{◌≡◌, ◌≤◌, ◌++◌, drop}
use Rattle.java_units.specs.Signs.{seen}
use Rattle.java_units.specs.Values.{parts_of}
use Rattle.java_units.proofs.values.parts.Given as goal

abbrev pub invariant-loop-i : goal.invariant-loop-i
invariant-loop-i l = record {
  depth : l.depth ≤ l.i;
  rest : parts_of 0 (seen l.lexemes) ≡ l.all ++ parts_of l.depth (drop l.i (seen l.lexemes));
}
