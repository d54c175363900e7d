use Rattle.std.proofs.Common.{◌≡◌, ◌≤◌, ◌+◌, ◌-◌, ◌++◌, length, map}
use Rattle.std.specs.Vec.{vec_len, vec_capacity}
use Rattle.serving.specs.Seats.{end_of}
use Rattle.serving.proofs.seats.close_all.Given as goal

abbrev pub invariant-loop-seat : goal.invariant-loop-seat
invariant-loop-seat g l = record {
  items : l.ends.items ≡ l.fn.ends.items ++ map end_of l.yielded;
  room : vec_len l.ends + (vec_len l.fn.seats - length l.yielded) ≤ vec_capacity l.ends;
}
