use Rattle.std.proofs.Common.{◌≡◌, map, take}
use Rattle.std.specs.BTreeSet.{contains_text}
use Rattle.source_classes.specs.KnownNames.{named_class}
use Rattle.source_classes.proofs.known.named_classes.Given as goal

abbrev pub invariant-loop-name : goal.invariant-loop-name
invariant-loop-name l = l.all ≡ map (named_class (contains_text l.set)) (take l.name-index l.names)
