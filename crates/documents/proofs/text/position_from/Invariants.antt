use Rattle.std.proofs.Common.{◌≡◌, ◌≤◌, ◌+◌, ◌*◌, length}
use denote.Shadow.{shadow}
use denote.Text.{Utf8}
use Rattle.std.specs.Str.{chars}
use Rattle.documents.specs.Places.{position_from}
use Rattle.documents.proofs.text.position_from.Given as goal

abbrev pub invariant-loop-c : goal.invariant-loop-c
invariant-loop-c l = record {
  same : position_from l.fn.line 0 l.bytes (chars l.text) ≡ position_from l.line l.unit l.left (chars l.rest);
  line : l.line + length l.rest ≤ l.fn.line + length l.text;
  unit : l.unit + 2 * length l.rest ≤ 2 * length l.text;
  text : shadow (Utf8 l.rest);
}

abbrev pub decreases-loop-c : goal.decreases-loop-c
decreases-loop-c l = length l.rest
