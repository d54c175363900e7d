use Rattle.std.proofs.Common.{◌∙◌, ap, sym, inl, Some}
use Rattle.offers.specs.Spellings.{class_spelling}
use Rattle.offers.specs.Views.{Outlook, scene}
use Rattle.offers.proofs.Spelled.{kept-at}
use Rattle.offers.proofs.spellings.Spellings.kept.Goals as goal

pub returns-in-Some : goal.returns-in-Some
returns-in-Some c =
    inl (kept-at (class_spelling (scene c.self.inside.view.now)) c.self.inside.names c.self.inside.texts.items c.as_slice.result.now c.args.name.now c.in-Some.place _ c.self.invariant (sym c.in-Some.ensures.value) c.as_slice.ensures.value c.at.ensures
    ∙ ap (λ (o : Outlook). Some (class_spelling (scene o) c.args.name.now)) c.self.view_is)
