use Rattle.std.proofs.Common.{◌∙◌, ◌++◌, ◌∷◌, [], ap, string_bytes}
use Rattle.std.specs.Str.{chars}
use Rattle.std.proofs.lemmas.Str.{IsUtf8-string_bytes}
use Rattle.java_resolve.proofs.WordTests.{char_pushed, on_err}
use Rattle.java_resolve.proofs.word.Word.push.Goals as goal

pub returns-clause-added : goal.returns-clause-added
returns-clause-added c = ap chars c.in_ok-push.ensures.bytes ∙ char_pushed (string_bytes c.self.inside.inner) c.args.c (IsUtf8-string_bytes c.self.inside.inner) c.ranges.c.0 ∙ ap (λ x. x ++ c.args.c ∷ []) c.self.view_is

pub returns-in_err-push-clause-unchanged : goal.returns-in_err-push-clause-unchanged
returns-in_err-push-clause-unchanged c = on_err c.from_residual.result (ap chars c.in_err-push.ensures.bytes ∙ c.self.view_is)
