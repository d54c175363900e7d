use Rattle.std.proofs.Common.{◌≡◌, rules, get_or}
use Rattle.sessions.proofs.OpenDocs.{set_at}
use Rattle.sessions.proofs.open_documents.OpenDocuments.set.Goals as goal

pub returns-in-Some-clause-set : goal.returns-in-Some-clause-set
returns-in-Some-clause-set c =
    let x = c.index_mut.result.now in
    let at : x ≡ get_or c.args.self.now c.in-Some.place x = search rules in
    let here = set_at c.args.uri.now c.args.state c.in-Some.place c.args.self.now x (search rules) at in
    search (rules, here)
