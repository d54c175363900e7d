use Rattle.std.proofs.Common.{◌<◌, ◌++◌, ℕ, slice_index_or}
use mathlib.Core.List.{IsPrefix}
use Rattle.serving.specs.declared.seats.Seat.{Seat}
use Rattle.serving.proofs.seats.join_prefixes.Given as goal

abbrev pub invariant-loop-seat : goal.invariant-loop-seat
invariant-loop-seat g l = record {
  longer : IsPrefix l.fn.first l.longest;
  all : (k : ℕ) (d : Seat g.row.J.Denot g.row.S.Denot g.row.K.Denot g.row.H.Denot) → k < l.seat-index → IsPrefix (slice_index_or l.seats k d).pass.seen (g.J.Naming.first ++ l.longest);
}
