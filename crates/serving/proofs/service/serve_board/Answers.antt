use Rattle.std.proofs.Common.{rules, ◌≡◌, ◌++◌, map}
use mathlib.Core.List.{IsPrefix}
use Rattle.std.specs.Prelude.{All}
use Rattle.serving.specs.declared.seats.Seat.{Seat}
use Rattle.serving.specs.Services.{view_of, IsGreatest}
use Rattle.serving.specs.Seats.{end_of}
use Rattle.serving.proofs.Seated.{all-served, all-last}
use Rattle.serving.proofs.service.serve_board.Goals as goal

pub returns-clause-serves : goal.returns-clause-serves
returns-clause-serves g c =
    let seen = view_of g.S.Source.left g.K.Sink.written g.H.Shelf.holds g.S.Source.faults g.K.Sink.faults g.H.Shelf.faults in
    let cs = c.open_all.new.seats.items in
    let ds = c.serve_all.new.seats.items in
    let before : map end_of cs ≡ c.args.ends.now.items = search rules in
    let after : map end_of ds ≡ c.close_all.new.ends.items = search rules in
    let slice : c.deref-2.result.now ≡ ds = search rules in
    let known : All (λ (d : Seat g.row.J.Denot g.row.S.Denot g.row.K.Denot g.row.H.Denot). IsPrefix d.pass.seen (g.J.Naming.first ++ c.join_prefixes-all.result)) ds = rw slice at c.join_prefixes-all.ensures.all in
    let one : c.deref.result.now ≡ ds = search rules in
    let most : IsGreatest (map (λ (d : Seat g.row.J.Denot g.row.S.Denot g.row.K.Denot g.row.H.Denot). d.ended) ds) c.greatest-answered.result.end c.greatest-answered.result.ended = rw one at c.greatest-answered.ensures.greatest in
    rw (← before, ← after) (all-served seen g.J.Naming.first (g.J.Naming.first ++ c.join_prefixes-all.result) cs ds c.greatest-answered.result.end c.greatest-answered.result.ended
    c.serve_all.ensures.same c.open_all.ensures.newcomers c.serve_all.ensures.each known most)

pub returns-clause-lasts : goal.returns-clause-lasts
returns-clause-lasts g c =
    let seen = view_of g.S.Source.left g.K.Sink.written g.H.Shelf.holds g.S.Source.faults g.K.Sink.faults g.H.Shelf.faults in
    let cs = c.open_all.new.seats.items in
    let ds = c.serve_all.new.seats.items in
    let before : map end_of cs ≡ c.args.ends.now.items = search rules in
    let after : map end_of ds ≡ c.close_all.new.ends.items = search rules in
    rw (← before, ← after) (all-last seen cs ds c.serve_all.ensures.same c.serve_all.ensures.each)
