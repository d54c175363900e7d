use Rattle.std.proofs.Common.{◌≡◌, map, take, length}
use Rattle.patterns.specs.States.{AreLists}
use Rattle.patterns.proofs.met_kinds.all_met.Given as goal

abbrev pub invariant-loop-from : goal.invariant-loop-from
invariant-loop-from l = record {
  as_many : length l.lists.items ≡ l.from-index;
  each : AreLists l.initial.sets l.initial.kinds.all.now l.initial.states.keys l.initial.marks (take l.from-index l.initial.states.keys) (map (λ v. v.items) l.lists.items);
}
