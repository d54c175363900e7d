use Rattle.std.proofs.Common.{◌≡◌, ◌∙◌, ap, subst, string_bytes}
use Rattle.std.specs.Str.{IsUtf8}
use Rattle.std.proofs.lemmas.Str.{IsUtf8-string_bytes}
use Rattle.sessions.proofs.Sourcing.{text_sound, text_broken}
use Rattle.sessions.proofs.sources.text_of.Goals as goal

pub returns-in-Ok-clause-text : goal.returns-in-Ok-clause-text
returns-in-Ok-clause-text c =
    let same : string_bytes c.in-Ok.text ≡ c.args.bytes.items = ap (λ v. v.items) c.in-Ok.ensures.ok in
    (c.from_string.ensures ∙ same, text_sound c.args.index c.args.bytes.items c.requires (subst IsUtf8 same (IsUtf8-string_bytes c.in-Ok.text)))

pub returns-clause-text : goal.returns-clause-text
returns-clause-text c = text_broken c.args.index c.args.bytes.items c.requires c.in-Err.ensures.succeeds
