use Rattle.std.proofs.Common.{◌≡◌, ◌-◌, false, not, get_or, length}
use Rattle.class_summary.specs.Names.{first_from}
use Rattle.scopes.proofs.binder.unmarked.Given as goal

abbrev pub invariant-loop-n : goal.invariant-loop-n
invariant-loop-n l = first_from (length l.marks - 1) 1 (λ n. not (get_or l.marks n false)) ≡ first_from (length l.marks - l.n) l.n (λ n. not (get_or l.marks n false))
