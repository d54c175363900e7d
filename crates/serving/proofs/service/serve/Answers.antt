use Rattle.std.proofs.Common.{rules, ◌≡◌, ◌⊎◌, ◌≤◌, ◌<◌, ◌∷◌, length, map, get_or, option_map, Err, refl, sym, ap, subst, arith}
use Rattle.std.specs.Prelude.{slice_set}
use Rattle.outside.specs.Causes.{Rose}
use Rattle.start_text.specs.Faults.{IsOutside}
use Rattle.start_text.specs.declared.fault.StartFault.TheVariants as start_fault
use Rattle.serving.specs.Services.{view_of, Lasts, IsFirst, IsStartFault, first_held, first_loads}
use Rattle.serving.proofs.Begun.{begun-served, fault-served, all-last-on, set-last, set-loads, held-first, loads-first, loads-set, set-untouched, same-view}
use Rattle.serving.proofs.service.serve.Goals as goal

pub returns-in-Ok-clause-serves : goal.returns-in-Ok-clause-serves
returns-in-Ok-clause-serves g c =
    let seen = view_of g.S.Source.left g.K.Sink.written g.H.Shelf.holds g.S.Source.faults g.K.Sink.faults g.H.Shelf.faults in
    let olds = c.args.ends.now.items in
    let e = c.index_mut.result.now in
    let f = c.load_first.new.end in
    let some : 0 < length olds = c.requires.count.0 in
    let is : e ≡ get_or olds 0 e = c.index_mut.ensures.value in
    let same = same-view g.S.Source.left g.K.Sink.written g.H.Shelf.holds g.S.Source.faults g.K.Sink.faults g.H.Shelf.faults e f c.load_first.ensures.untouched.0 c.load_first.ensures.untouched.1 c.load_first.ensures.shelf.unchanged in
    let told = held-first seen olds e some is in
    let first : IsFirst (option_map (λ n. n.now) c.args.name) (first_held (map seen olds)) c.in-Ok.first = rw told c.in-Ok.ensures.first in
    let later : first_loads (map seen olds) ≤ g.H.Shelf.faults f.shelf = rw (loads-first seen olds e some is) c.load_first.ensures.shelf.later in
    begun-served c.serve_board.result _ c.in-Ok.first (map seen olds) (map seen (slice_set olds 0 f)) _ (g.H.Shelf.faults f.shelf) first (set-loads seen olds e f some is same) later c.serve_board.ensures.serves

pub returns-in-Ok-clause-untouched : goal.returns-in-Ok-clause-untouched
returns-in-Ok-clause-untouched g c = λ none.
    let seen = view_of g.S.Source.left g.K.Sink.written g.H.Shelf.holds g.S.Source.faults g.K.Sink.faults g.H.Shelf.faults in
    let olds = c.args.ends.now.items in
    let e = c.index_mut.result.now in
    let f = c.load_first.new.end in
    let some : 0 < length olds = c.requires.count.0 in
    let is : e ≡ get_or olds 0 e = c.index_mut.ensures.value in
    let same = same-view g.S.Source.left g.K.Sink.written g.H.Shelf.holds g.S.Source.faults g.K.Sink.faults g.H.Shelf.faults e f c.load_first.ensures.untouched.0 c.load_first.ensures.untouched.1 c.load_first.ensures.shelf.unchanged in
    rw (c.serve_board.ensures.untouched none) (set-untouched olds e f some is c.load_first.ensures.untouched.0 c.load_first.ensures.untouched.1)

pub returns-in-Ok-clause-lasts : goal.returns-in-Ok-clause-lasts
returns-in-Ok-clause-lasts g c =
    let seen = view_of g.S.Source.left g.K.Sink.written g.H.Shelf.holds g.S.Source.faults g.K.Sink.faults g.H.Shelf.faults in
    let olds = c.args.ends.now.items in
    let e = c.index_mut.result.now in
    let f = c.load_first.new.end in
    let some : 0 < length olds = c.requires.count.0 in
    let is : e ≡ get_or olds 0 e = c.index_mut.ensures.value in
    let same = same-view g.S.Source.left g.K.Sink.written g.H.Shelf.holds g.S.Source.faults g.K.Sink.faults g.H.Shelf.faults e f c.load_first.ensures.untouched.0 c.load_first.ensures.untouched.1 c.load_first.ensures.shelf.unchanged in
    let held : Lasts (seen e) (seen f) = rw same (record { held = refl; reads = omega arith; writes = omega arith; loads = c.load_first.ensures.shelf.later }) in
    all-last-on (map seen olds) (map seen (slice_set olds 0 f)) _ (set-last seen olds e f some is held) c.serve_board.ensures.lasts

pub returns-in-Err-clause-serves : goal.returns-in-Err-clause-serves
returns-in-Err-clause-serves g c =
    let seen = view_of g.S.Source.left g.K.Sink.written g.H.Shelf.holds g.S.Source.faults g.K.Sink.faults g.H.Shelf.faults in
    let olds = c.args.ends.now.items in
    let e = c.index_mut.result.now in
    let f = c.load_first.new.end in
    let some : 0 < length olds = c.requires.count.0 in
    let is : e ≡ get_or olds 0 e = c.index_mut.ensures.value in
    let same = same-view g.S.Source.left g.K.Sink.written g.H.Shelf.holds g.S.Source.faults g.K.Sink.faults g.H.Shelf.faults e f c.load_first.ensures.untouched.0 c.load_first.ensures.untouched.1 c.load_first.ensures.shelf.unchanged in
    let told = held-first seen olds e some is in
    let wrong : IsOutside c.in-Err.fault ⊎ IsStartFault (option_map (λ n. n.now) c.args.name) (first_held (map seen olds)) c.in-Err.fault = rw told c.in-Err.ensures.fault in
    let rose : c.in-Err.fault ≡ start_fault.Failed → Rose (first_loads (map seen olds)) (first_loads (map seen (slice_set olds 0 f))) =
    λ failed. rw (loads-first seen olds e some is, loads-set seen olds f some) (c.load_first.ensures.shelf.cause (rw c.in-Err.is (ap Err failed))) in
    fault-served c.of_fault.result _ c.in-Err.fault (map seen olds) (map seen (slice_set olds 0 f)) c.of_fault.ensures wrong rose

pub returns-in-Err-clause-untouched : goal.returns-in-Err-clause-untouched
returns-in-Err-clause-untouched g c = λ none.
    let seen = view_of g.S.Source.left g.K.Sink.written g.H.Shelf.holds g.S.Source.faults g.K.Sink.faults g.H.Shelf.faults in
    let olds = c.args.ends.now.items in
    let e = c.index_mut.result.now in
    let f = c.load_first.new.end in
    let some : 0 < length olds = c.requires.count.0 in
    let is : e ≡ get_or olds 0 e = c.index_mut.ensures.value in
    let same = same-view g.S.Source.left g.K.Sink.written g.H.Shelf.holds g.S.Source.faults g.K.Sink.faults g.H.Shelf.faults e f c.load_first.ensures.untouched.0 c.load_first.ensures.untouched.1 c.load_first.ensures.shelf.unchanged in
    set-untouched olds e f some is c.load_first.ensures.untouched.0 c.load_first.ensures.untouched.1

pub returns-in-Err-clause-lasts : goal.returns-in-Err-clause-lasts
returns-in-Err-clause-lasts g c =
    let seen = view_of g.S.Source.left g.K.Sink.written g.H.Shelf.holds g.S.Source.faults g.K.Sink.faults g.H.Shelf.faults in
    let olds = c.args.ends.now.items in
    let e = c.index_mut.result.now in
    let f = c.load_first.new.end in
    let some : 0 < length olds = c.requires.count.0 in
    let is : e ≡ get_or olds 0 e = c.index_mut.ensures.value in
    let same = same-view g.S.Source.left g.K.Sink.written g.H.Shelf.holds g.S.Source.faults g.K.Sink.faults g.H.Shelf.faults e f c.load_first.ensures.untouched.0 c.load_first.ensures.untouched.1 c.load_first.ensures.shelf.unchanged in
    let held : Lasts (seen e) (seen f) = rw same (record { held = refl; reads = omega arith; writes = omega arith; loads = c.load_first.ensures.shelf.later }) in
    set-last seen olds e f some is held
