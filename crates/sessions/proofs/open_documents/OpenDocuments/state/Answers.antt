use Rattle.std.proofs.Common.{◌≡◌, rules, get_or}
use Rattle.sessions.proofs.OpenDocs.{state_at}
use Rattle.sessions.proofs.open_documents.OpenDocuments.state.Goals as goal

pub returns-in-Some : goal.returns-in-Some
returns-in-Some c =
    let x = c.index.result.now in
    let at : x ≡ get_or c.args.self.now c.in-Some.place x = search rules in
    let here = state_at c.args.uri.now c.in-Some.place c.args.self.now x (search rules) at in
    record { found = search (rules, here) }
