use Rattle.std.proofs.Common.{◌≡◌, rules, get_or, inl}
use Rattle.answers.specs.declared.types.DocumentState.TheVariants.{NoMemory}
use Rattle.sessions.proofs.OpenDocs.{changed_at}
use Rattle.sessions.proofs.open_documents.OpenDocuments.lose.Goals as goal

pub returns-in-Some : goal.returns-in-Some
returns-in-Some c =
    let x = c.index_mut.result.now in
    let at : x ≡ get_or c.args.self.now c.in-Some.place x = search rules in
    record { lost = changed_at c.args.uri.now c.in-Some.place x _ (λ s. NoMemory) c.args.self.now _ (search rules) at (inl c.forget.ensures.state) (search rules) }
