use Rattle.std.proofs.Common.{rules, ◌≡◌, ◌<◌, ◌++◌, ◌∷◌, [], ap, ◌∙◌, length, map, arith, append_assoc, length-append}
use Rattle.std.proofs.lemmas.List.{map-append}
use Rattle.std.proofs.lemmas.List.Elements.{All-push}
use Rattle.std.proofs.lemmas.Iterator.Adapters.{YieldsList-from_vec}
use Rattle.std.proofs.lemmas.Iterator.Consumers.{YieldsList-turn}
use Rattle.version_board.specs.Views.{newcomer}
use Rattle.serving.specs.declared.seats.Seat.{Seat}
use Rattle.serving.specs.Seats.{end_of}
use Rattle.serving.proofs.seats.open_all.Goals as goal

pub loop-end-preserved : goal.loop-end-preserved
loop-end-preserved g c =
    let Q = λ (seat : Seat g.row.J.Denot g.row.S.Denot g.row.K.Denot g.row.H.Denot). seat.pass ≡ newcomer g.J.Naming.first in
    let turn = YieldsList-turn (YieldsList-from_vec {s = c.into_iter-end-iterator.result} c.args.ends.items (search rules) (search rules)) c.loop-end.yielded c.loop-end.end-iterator c.loop-end.yielded_by c.next.result c.next.new.self c.in-Some.end c.in-Some.is c.next.ensures.steps in
    let more : length c.loop-end.yielded < length c.args.ends.items = turn.0 in
    let long = length-append c.loop-end.yielded (c.in-Some.end ∷ []) in
    let placed : map end_of c.push_reserved.new.self.items ≡ map end_of c.loop-end.seats.items ++ c.in-Some.end ∷ [] =
    ap (map end_of) c.push_reserved.ensures.items ∙ map-append end_of c.loop-end.seats.items (c.seat_with.result ∷ []) ∙ ap (λ z. map end_of c.loop-end.seats.items ++ z ∷ []) c.seat_with.ensures.end in
    record {
      items = placed ∙ ap (λ z. z ++ c.in-Some.end ∷ []) c.loop-end.invariant.items ∙ append_assoc (map end_of c.args.seats.now.items) c.loop-end.yielded (c.in-Some.end ∷ []);
      room = omega (arith, c.push_reserved.ensures.len, c.push_reserved.ensures.capacity, c.loop-end.invariant.room, more, long, c.args.ends.ok.0);
      passes = omega (arith, c.seat_with.ensures.one_less, c.loop-end.invariant.passes, more, long, c.args.ends.ok.0);
      newcomers = c.seat_with.ensures.newcomers;
      seated = rw c.push_reserved.ensures.items (All-push Q c.loop-end.seats.items c.seat_with.result c.loop-end.invariant.seated c.seat_with.ensures.pass);
    }
