use Rattle.std.proofs.Common.{◌≡◌, false, chars, length}
use denote.Shadow.{shadow}
use denote.Text.{Utf8}
use Rattle.java_resolve.specs.Readable.{dims_from}
use Rattle.java_resolve.proofs.readable.are_dimensions.Given as goal

abbrev pub invariant-loop-c : goal.invariant-loop-c
invariant-loop-c l = record {
  owed : dims_from l.is_open (chars l.rest) ≡ dims_from false (chars l.fn.text);
  text : shadow (Utf8 l.rest);
}

abbrev pub decreases-loop-c : goal.decreases-loop-c
decreases-loop-c l = length l.rest
