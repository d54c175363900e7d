use Rattle.std.proofs.Common.{◌∙◌, ap, sym}
use Rattle.std.proofs.lemmas.Str.{encodes-chars}
use Rattle.std.specs.Str.{chars}
use Rattle.java_tokens.specs.Rules.{is_closed_at}
use Rattle.java_tokens.specs.Tokens.{is_closed}
use Rattle.java_tokens.proofs.Closed.{closed-encodes}
use Rattle.java_tokens.proofs.closing.is_closed.Goals as goal

pub returns : goal.returns
unfolding is_closed
returns c =
    let rest = c.range_from-from.result.now in
    record {
      by_the_rule = c.is_closed_at.ensures
          ∙ (ap is_closed_at (c.as_bytes.ensures.value ∙ sym (encodes-chars rest c.range_from-from.utf8))
          ∙ (closed-encodes (chars rest) ∙ ap (λ x. is_closed_at (chars x)) c.range_from-from.ensures.value));
    }
