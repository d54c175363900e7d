use Rattle.std.proofs.Common.{◌≡◌, take}
use Rattle.java_tokens.specs.Tokens.{byte_len}
use Rattle.java_tokens.proofs.rules.byte_len.Given as goal

abbrev pub invariant-loop-i : goal.invariant-loop-i
invariant-loop-i l = l.bytes ≡ byte_len (take l.i l.cs)
