use Rattle.std.proofs.Common.{◌≤◌, ◌+◌, ◌++◌, List, length}
use Rattle.java_tokens.specs.Tokens.{AreTokens, byte_len}
use Rattle.java_tokens.specs.declared.token.Token.{Token}
use Rattle.java_tokens.proofs.token.tokens_of_chars.Given as goal

abbrev pub invariant-loop-rest : goal.invariant-loop-rest
invariant-loop-rest l = record {
  tiles : (more : List Token) → AreTokens l.at l.rest more → AreTokens 0 l.cs (l.tokens ++ more);
  room : l.at + byte_len l.rest ≤ 16777216;
}

abbrev pub decreases-loop-rest : goal.decreases-loop-rest
decreases-loop-rest l = length l.rest
