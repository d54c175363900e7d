use Rattle.std.proofs.Common.{◌≡◌, ◌+◌, rules, ap, get_or}
use Rattle.std.specs.Prelude.{slice_set}
use Rattle.answers.specs.Cursors.{moved}
use Rattle.sessions.proofs.KeptCursors.{moved_at}
use Rattle.sessions.proofs.cursors.Cursors.move_on.Goals as goal

pub returns : goal.returns
returns c =
    let x = c.index_mut.result.now in
    let at : x ≡ get_or c.args.self.now.cursors c.args.place x = search rules in
    let here : slice_set c.args.self.now.cursors c.args.place (record x { answered = x.answered + c.args.count }) ≡ moved c.args.number c.args.count c.args.self.now.cursors =
    moved_at c.args.number c.args.place c.args.count c.args.self.now.cursors x c.requires.stands at in
    record { moved = search (rules, ap (λ cs. record c.args.self.now { cursors = cs }) here) }
