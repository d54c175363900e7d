use Rattle.std.proofs.Common.{◌∙◌, ap, Some, string_bytes}
use Rattle.std.proofs.lemmas.Str.{IsUtf8-string_bytes}
use Rattle.lsp_forms.specs.Paths.{as_text}
use Rattle.lsp_forms.proofs.Texts.{as_text-none, as_text-some}
use Rattle.lsp_forms.proofs.paths.as_text.Goals as goal

pub returns-in-Ok : goal.returns-in-Ok
returns-in-Ok c = ap Some c.from_string.ensures ∙ as_text-some (string_bytes c.in-Ok.text) (IsUtf8-string_bytes c.in-Ok.text) ∙ ap (λ v. as_text v.items) c.in-Ok.ensures.ok

pub returns : goal.returns
returns c = as_text-none c.args.bytes.items c.in-Err.ensures.succeeds
