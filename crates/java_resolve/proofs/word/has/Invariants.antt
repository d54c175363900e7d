use Rattle.std.proofs.Common.{◌≡◌, drop}
use Rattle.java_units.specs.Words.{texts}
use Rattle.java_units.specs.Signs.{has}
use Rattle.java_resolve.proofs.word.has.Given as goal

abbrev pub invariant-loop-i : goal.invariant-loop-i
invariant-loop-i l = has (texts l.table) l.word ≡ has (drop l.i (texts l.table)) l.word
