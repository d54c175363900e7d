use Rattle.std.proofs.Common.{◌≡◌, length, take, flat_map}
use Rattle.source_classes.proofs.classes.in_a_row.Given as goal

abbrev pub invariant-loop-classes : goal.invariant-loop-classes
invariant-loop-classes l = l.all ≡ flat_map (λ classes. classes) (take (length l.yielded) l.fn.lists.items)
