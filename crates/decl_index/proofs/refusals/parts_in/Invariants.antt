use Rattle.std.proofs.Common.{◌≡◌, take, map}
use Rattle.std.specs.Arc.{arc_value}
use Rattle.decl_index.specs.Refusals.{parts_in}
use Rattle.decl_index.proofs.refusals.parts_in.Given as goal

abbrev pub invariant-loop-class : goal.invariant-loop-class
invariant-loop-class l = l.parts ≡ parts_in (map arc_value (take l.class-index l.classes))
