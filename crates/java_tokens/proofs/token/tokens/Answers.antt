use Rattle.std.proofs.Common.{◌≡◌, rules, arith, ◌∙◌, ap}
use Rattle.std.proofs.lemmas.Str.{chars_from_encodes}
use Rattle.std.specs.Str.{chars}
use Rattle.java_tokens.specs.Tokens.{byte_len, AreTokensOf}
use Rattle.java_tokens.proofs.Runs.{byte_len-chars}
use Rattle.java_tokens.proofs.Total.{has_tokens, only_tokens, all_within}
use Rattle.java_tokens.proofs.token.tokens.Goals as goal

pub tokens_of_chars-requires : goal.tokens_of_chars-requires
tokens_of_chars-requires c =
    let is : c.in_ok-cs.cs.items ≡ chars c.args.text.now = search (rules, chars_from_encodes) in
    omega (arith, ap byte_len (c.as_slice.ensures.value ∙ is), byte_len-chars c.args.text.now c.utf8.text, c.requires)

pub returns-in_err-cs-clause-total : goal.returns-in_err-cs-clause-total
returns-in_err-cs-clause-total c = has_tokens c.args.text.now

pub returns-in_err-all-clause-total : goal.returns-in_err-all-clause-total
returns-in_err-all-clause-total c = has_tokens c.args.text.now

pub returns : goal.returns
returns c =
    let is : c.in_ok-cs.cs.items ≡ chars c.args.text.now = search (rules, chars_from_encodes) in
    let are : AreTokensOf c.args.text.now c.in_ok-all.all = rw (← is, ← c.as_slice.ensures.value) c.in_ok-all.ensures.by_the_rules in
    record {
      by_the_rules = are;
      total = has_tokens c.args.text.now;
      only = only_tokens c.args.text.now c.in_ok-all.all are;
      tiling = rw (← byte_len-chars c.args.text.now c.utf8.text, ← is, ← c.as_slice.ensures.value) c.in_ok-all.ensures.tiling;
      whole = all_within c.args.text.now c.in_ok-all.all c.utf8.text are;
    }
