use Rattle.std.proofs.Common.{◌≡◌, rules, get_or}
use Rattle.answers.specs.Sessions.{state_by}
use Rattle.sessions.proofs.OpenDocs.{changed_at}
use Rattle.sessions.proofs.open_documents.OpenDocuments.change.Goals as goal

pub returns-in-Some : goal.returns-in-Some
returns-in-Some c =
    let x = c.index_mut.result.now in
    let at : x ≡ get_or c.args.self.now c.in-Some.place x = search rules in
    record { changed = changed_at c.args.uri.now c.in-Some.place x _ (λ s. state_by s c.args.changes) c.args.self.now _ (search rules) at c.change_all.ensures.state (search rules) }
