use Rattle.std.proofs.Common.{◌≡◌, vec_len, All}
use Rattle.version_board.specs.Views.{newcomer}
use Rattle.version_board.proofs.start.seats.Given as goal

abbrev pub invariant-loop : goal.invariant-loop
invariant-loop g l = (vec_len l.passes ≡ l.counter) × All (λ p. p ≡ newcomer g.J.Naming.first) l.passes.items
