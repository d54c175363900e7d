use Rattle.std.proofs.Common.{◌≡◌, length}
use Rattle.weight_bounds.proofs.users.no_users.Given as goal

abbrev pub invariant-loop : goal.invariant-loop
invariant-loop l = record { as_many : length l.users.items ≡ l.counter }
