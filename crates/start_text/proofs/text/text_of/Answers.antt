use Rattle.std.proofs.Common.{◌≡◌, ap, subst, inr, string_bytes}
use Rattle.std.specs.Str.{IsUtf8}
use Rattle.std.proofs.lemmas.Str.{IsUtf8-string_bytes}
use Rattle.start_text.proofs.Loads.{text-good, text-bad}
use Rattle.start_text.proofs.text.text_of.Goals as goal

pub returns-in-Ok-clause-fault : goal.returns-in-Ok-clause-fault
returns-in-Ok-clause-fault c =
    let same : string_bytes c.in-Ok.text ≡ c.args.bytes.items = ap (λ v. v.items) c.in-Ok.ensures.ok in
    text-good c.args.bytes.items c.requires (subst IsUtf8 same (IsUtf8-string_bytes c.in-Ok.text))

pub returns-clause-fault : goal.returns-clause-fault
returns-clause-fault c = inr (text-bad c.args.bytes.items c.requires c.in-Err.ensures.succeeds)
