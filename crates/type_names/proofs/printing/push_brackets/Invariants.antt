use Rattle.std.proofs.Common.{◌≡◌, ◌++◌, replicate}
use Rattle.type_names.proofs.printing.push_brackets.Given as goal

abbrev pub invariant-loop : goal.invariant-loop
invariant-loop l = l.text ≡ l.initial.text ++ replicate l.counter 91
