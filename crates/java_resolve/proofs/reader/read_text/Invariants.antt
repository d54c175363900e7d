use Rattle.std.proofs.Common.{chars, length}
use denote.Shadow.{shadow}
use denote.Text.{Utf8}
use Rattle.java_resolve.specs.View.{around, spot_part}
use Rattle.java_resolve.specs.Places.{IsReadTo}
use Rattle.java_resolve.proofs.reader.read_text.Given as goal

abbrev pub invariant-loop-c : goal.invariant-loop-c
invariant-loop-c l = record {
  read : IsReadTo (chars l.binder) l.text l.rest (spot_part (around l.frames) l.spot);
  text : shadow (Utf8 l.rest);
}

abbrev pub decreases-loop-c : goal.decreases-loop-c
decreases-loop-c l = length l.rest
