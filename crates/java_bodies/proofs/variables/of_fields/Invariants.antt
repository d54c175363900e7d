use Rattle.std.proofs.Common.{◌≡◌, take, map}
use Rattle.java_bodies.specs.Variables.{of_field}
use Rattle.java_bodies.proofs.variables.of_fields.Given as goal

abbrev pub invariant-loop-field : goal.invariant-loop-field
invariant-loop-field l = l.all ≡ map of_field (take l.field-index l.fields)
