use Rattle.std.proofs.Common.{◌≡◌, ◌≤◌, ◌+◌, ◌-◌, ◌++◌, length, map}
use Rattle.std.specs.Prelude.{All}
use Rattle.std.specs.Vec.{vec_len, vec_capacity}
use Rattle.version_board.specs.Views.{newcomer}
use Rattle.serving.specs.Seats.{end_of}
use Rattle.serving.proofs.seats.open_all.Given as goal

abbrev pub invariant-loop-end : goal.invariant-loop-end
invariant-loop-end g l = record {
  items : map end_of l.seats.items ≡ map end_of l.fn.seats.items ++ l.yielded;
  room : vec_len l.seats + (vec_len l.fn.ends - length l.yielded) ≤ vec_capacity l.seats;
  passes : vec_len l.fn.ends - length l.yielded ≤ vec_len l.passes;
  newcomers : All (λ p. p ≡ newcomer g.J.Naming.first) l.passes.items;
  seated : All (λ seat. seat.pass ≡ newcomer g.J.Naming.first) l.seats.items;
}
