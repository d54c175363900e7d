use Rattle.std.proofs.Common.{◌≡◌, ◌+◌, length}
use denote.Text.{Utf8}
use denote.Shadow.{shadow}
use Rattle.type_names.specs.Reading.{field_at}
use Rattle.type_names.proofs.fields.dims_at.Given as goal

abbrev pub invariant-loop-next : goal.invariant-loop-next
invariant-loop-next l = shadow (Utf8 l.rest) × (l.dims + length l.rest ≡ length l.text) × (field_at l.dims l.rest ≡ field_at 0 l.text)

abbrev pub decreases-loop-next : goal.decreases-loop-next
decreases-loop-next l = length l.rest
