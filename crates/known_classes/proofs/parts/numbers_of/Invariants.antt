use Rattle.std.specs.BTreeMap.{get_by_text}
use Rattle.known_classes.proofs.NumberTables.{IsMade}
use Rattle.known_classes.proofs.parts.numbers_of.Given as goal

abbrev pub invariant-loop-left : goal.invariant-loop-left
invariant-loop-left g l = IsMade (g.C.Classes.listed l.base) l.extra l.added.items (get_by_text l.by_name) l.left

abbrev pub decreases-loop-left : goal.decreases-loop-left
decreases-loop-left g l = l.left
