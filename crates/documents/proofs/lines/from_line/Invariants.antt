use Rattle.std.proofs.Common.{◌≡◌}
use denote.Shadow.{shadow}
use denote.Text.{Utf8}
use Rattle.std.specs.Str.{chars}
use Rattle.documents.specs.Places.{from_line, IsRest}
use Rattle.documents.proofs.lines.from_line.Given as goal

abbrev pub invariant-loop-lines : goal.invariant-loop-lines
invariant-loop-lines l = record {
  same : from_line l.line (chars l.text) ≡ from_line l.lines (chars l.rest);
  rest : IsRest l.text l.rest;
  text : shadow (Utf8 l.rest);
}

abbrev pub decreases-loop-lines : goal.decreases-loop-lines
decreases-loop-lines l = l.lines
