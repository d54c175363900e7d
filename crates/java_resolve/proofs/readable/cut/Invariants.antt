use Rattle.std.proofs.Common.{◌≡◌, ◌++◌, chars, length}
use denote.Shadow.{shadow}
use denote.Text.{Utf8}
use Rattle.java_resolve.specs.Readable.{HasNoBracket}
use Rattle.java_resolve.proofs.readable.cut.Given as goal

abbrev pub invariant-loop-c : goal.invariant-loop-c
invariant-loop-c l = record {
  is : chars l.fn.text ≡ l.base ++ chars l.rest;
  lacks : HasNoBracket l.base;
  text : shadow (Utf8 l.rest);
}

abbrev pub decreases-loop-c : goal.decreases-loop-c
decreases-loop-c l = length l.rest
