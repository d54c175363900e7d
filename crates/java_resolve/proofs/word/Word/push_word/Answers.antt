use Rattle.std.proofs.Common.{◌∙◌, ◌++◌, ap, ap₂, string_bytes}
use Rattle.std.specs.Str.{chars}
use Rattle.std.proofs.lemmas.Str.{IsUtf8-string_bytes, chars-append}
use Rattle.java_resolve.proofs.WordTests.{on_err}
use Rattle.java_resolve.proofs.word.Word.push_word.Goals as goal

pub returns-clause-added : goal.returns-clause-added
returns-clause-added c = ap chars c.in_ok-push_str.ensures.bytes ∙ chars-append (string_bytes c.self.inside.inner) c.as_str.result.now (IsUtf8-string_bytes c.self.inside.inner) ∙ ap₂ (λ x y. x ++ y) c.self.view_is c.as_str.ensures

pub returns-in_err-push_str-clause-unchanged : goal.returns-in_err-push_str-clause-unchanged
returns-in_err-push_str-clause-unchanged c = on_err c.from_residual.result (ap chars c.in_err-push_str.ensures.bytes ∙ c.self.view_is)
