use Rattle.std.proofs.Common.{◌≡◌, take}
use Rattle.std.specs.BTreeSet.{contains_text}
use Rattle.decl_index.specs.History.{Name}
use Rattle.decl_index.specs.Merging.{is_among}
use Rattle.decl_index.proofs.merge.set_of.Given as goal

abbrev pub invariant-loop-name : goal.invariant-loop-name
invariant-loop-name l = (n : Name) → contains_text l.set n ≡ is_among (take l.name-index l.names) n
