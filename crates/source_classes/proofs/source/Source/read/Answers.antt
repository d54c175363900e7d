use Rattle.std.proofs.Common.{sym, subst, List}
use Rattle.java_tokens.specs.declared.token.Token.{Token}
use Rattle.java_tokens.specs.Tokens.{AreTokensOf}
use Rattle.source_classes.proofs.source.Source.read.Goals as goal

pub returns : goal.returns
returns c = record {
  tokens = c.as_slice.result.now;
  lexed = subst (λ (ts : List Token). AreTokensOf c.args.text.now ts) (sym c.as_slice.ensures) c.in_ok-all.ensures.by_the_rules;
  parsed = c.in_ok-unit.ensures.exact;
}
