use Rattle.std.proofs.Common.{◌≡◌, take}
use Rattle.std.specs.BTreeMap.{get_by_text}
use Rattle.std.specs.Option.{option_or}
use Rattle.decl_index.specs.History.{Name, counted}
use Rattle.decl_index.proofs.counts.set_all.Given as goal

abbrev pub invariant-loop-count : goal.invariant-loop-count
invariant-loop-count l = (key : Name) → get_by_text l.counts key ≡ option_or (counted key (take l.count-index l.more)) (get_by_text l.fn.counts key)
