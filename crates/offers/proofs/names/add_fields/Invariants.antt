use Rattle.std.proofs.Common.{◌≡◌, ◌++◌, take, map}
use Rattle.offers.proofs.names.add_fields.Given as goal

abbrev pub invariant-loop-field : goal.invariant-loop-field
invariant-loop-field l = l.names ≡ l.initial.names ++ map (λ f. f.name) (take l.field-index l.fields)
