use Rattle.std.proofs.Common.{◌≡◌, ◌++◌, map, take}
use Rattle.offers.specs.Candidates.{field_of}
use Rattle.offers.proofs.candidates.add_fields.Given as goal

abbrev pub invariant-loop-field : goal.invariant-loop-field
invariant-loop-field l = l.all.items ≡ l.initial.all.items ++ map (field_of l.class) (take l.field-index l.field-items)
