use Rattle.std.proofs.Common.{◌≡◌, ℕ, List, take}
use Rattle.std.specs.BTreeSet.{contains_text}
use Rattle.decl_index.specs.Merging.{is_among}
use Rattle.source_classes.proofs.known.set_of.Given as goal

abbrev pub invariant-loop-name : goal.invariant-loop-name
invariant-loop-name l = (n : List ℕ) → contains_text l.set n ≡ is_among (take l.name-index l.names) n
