use Rattle.std.proofs.Common.{◌≡◌, ◌++◌, take, map}
use Rattle.std.specs.List.{flat_map, AllByRecursion}
use Rattle.class_pool.specs.Spelling.{entry}
use Rattle.workload.specs.Layout.{entry_in}
use Rattle.workload.specs.Views.{need_seen}
use Rattle.workload.specs.Spelled.{IsSpelled}
use Rattle.workload.proofs.pool.put_entries.Given as goal

abbrev pub invariant-loop-i : goal.invariant-loop-i
invariant-loop-i l = record {
  written : l.out.items ≡ l.initial.out.items ++ flat_map entry (map (entry_in l.plan) (map need_seen (take l.i l.needs)));
  spelled : AllByRecursion IsSpelled (map need_seen (take l.i l.needs));
}
