use Rattle.std.proofs.Common.{◌≡◌, length}
use denote.Shadow.{shadow}
use denote.Text.{Utf8}
use Rattle.std.specs.Str.{chars}
use Rattle.documents.specs.Places.{from_unit, IsRest}
use Rattle.documents.proofs.text.from_unit.Given as goal

abbrev pub invariant-loop-c : goal.invariant-loop-c
invariant-loop-c l = record {
  same : from_unit l.unit (chars l.text) ≡ from_unit l.left (chars l.rest);
  rest : IsRest l.text l.rest;
  text : shadow (Utf8 l.rest);
}

abbrev pub decreases-loop-c : goal.decreases-loop-c
decreases-loop-c l = length l.rest
