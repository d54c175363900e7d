use Rattle.std.proofs.Common.{rules, ◌≡◌, ◌+◌, ◌-◌, ◌<◌, ◌∙◌, ap, length-drop, List, map, take, drop, length, get_or, subst, sym, arith}
use Rattle.std.proofs.lemmas.List.{take_all}
use Rattle.sessions.specs.declared.ending.Ended.{Ended}
use Rattle.serving.specs.declared.seats.Seat.{Seat}
use Rattle.serving.specs.Services.{IsGreatest}
use Rattle.serving.proofs.Seated.{one-more, first-many}
use Rattle.serving.proofs.seats.greatest.Goals as goal

pub loop-seat-preserved : goal.loop-seat-preserved
loop-seat-preserved g c =
    let f = λ (x : Seat g.row.J.Denot g.row.S.Denot g.row.K.Denot g.row.H.Denot). x.ended in
    let xs = c.args.seats.now in
    let i = c.loop-seat.seat-index in
    let within : i + 1 < length xs = search rules in
    let whole : take (length xs - 1) (drop 1 xs) ≡ drop 1 xs = take_all (length xs - 1) (drop 1 xs) (omega (arith, length-drop 1 xs)) in
    let at : c.seat-item.result ≡ get_or (drop 1 xs) i c.seat-item.result = c.seat-item.is ∙ ap (λ ys. get_or ys i c.seat-item.result) whole in
    let many : length (map f (take (i + 1) xs)) ≡ c.loop-seat.end = first-many f xs i (omega (arith, within)) ∙ sym c.loop-seat.invariant.counted in
    record {
      greatest = subst (λ (es : List Ended). IsGreatest es c.greater-best.result.end c.greater-best.result.ended) (one-more f xs i c.seat-item.result within at) (c.greater-best.ensures (map f (take (i + 1) xs)) many c.loop-seat.invariant.greatest);
      counted = omega (arith, c.loop-seat.invariant.counted);
    }
