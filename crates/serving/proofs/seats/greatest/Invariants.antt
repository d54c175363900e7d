use Rattle.std.proofs.Common.{◌≡◌, ◌+◌, map, take}
use Rattle.serving.specs.Services.{IsGreatest}
use Rattle.serving.proofs.seats.greatest.Given as goal

abbrev pub invariant-loop-seat : goal.invariant-loop-seat
invariant-loop-seat g l = record {
  greatest : IsGreatest (map (λ seat. seat.ended) (take (l.seat-index + 1) l.seats)) l.best.end l.best.ended;
  counted : l.end ≡ l.seat-index + 1;
}
