use Rattle.std.proofs.Common.{◌≡◌, ◌++◌, ◌+◌, ◌-◌, ◌==◌, map}
use Rattle.std.specs.List.{range_with_len}
use Rattle.terms.specs.Text.{variable_text, binders_text}
use Rattle.java_print.specs.Pieces.{rest_text}
use Rattle.java_print.proofs.words.print_binders.Given as goal

abbrev pub invariant-loop-k : goal.invariant-loop-k
invariant-loop-k l = l.out ++ rest_text (l.k == 0) (map (variable_text l.parts) (range_with_len (l.from + l.k) (l.count - l.k))) ≡ l.fn.out ++ binders_text l.parts l.from l.count
