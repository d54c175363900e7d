use Rattle.std.proofs.Common.{◌≡◌, ◌∙◌, rules, ap}
use Rattle.std.specs.Prelude.{filter, not, bytes_eq}
use Rattle.std.proofs.lemmas.Fn.{filter_same}
use Rattle.answers.specs.Sessions.{without_document}
use Rattle.sessions.proofs.open_documents.OpenDocuments.close.Goals as goal

pub returns : goal.returns
returns c =
    let items : c.self.inside.items.items ≡ c.args.self.now = search rules in
    let kept : c.retain.new.self.items ≡ filter (λ d. not (bytes_eq d.uri c.args.uri.now)) c.self.inside.items.items = filter_same _ _ _ (λ x b f' k. search rules) _ _ c.retain.ensures.filtered in
    record { left = kept ∙ ap (λ ds. without_document c.args.uri.now ds) items }
