use Rattle.std.proofs.Common.{◌≤◌, All, length}
use Rattle.source_tests.proofs.told_tests.texts_of.Given as goal

abbrev pub invariant-loop-i : goal.invariant-loop-i
invariant-loop-i l = All (λ text. length text ≤ 16777216) l.texts
