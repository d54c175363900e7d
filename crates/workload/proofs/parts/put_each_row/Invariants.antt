use Rattle.std.proofs.Common.{◌≡◌, ◌++◌, take, map}
use Rattle.std.specs.List.{flat_map, AllByRecursion}
use Rattle.class_shape.specs.Parts.{row}
use Rattle.workload.specs.Layout.{row_in}
use Rattle.workload.specs.Flags.{IsShortRow}
use Rattle.workload.proofs.parts.put_each_row.Given as goal

abbrev pub invariant-loop-i : goal.invariant-loop-i
invariant-loop-i l = record {
  written : l.out.items ≡ l.initial.out.items ++ flat_map row (map (row_in l.plan) (take l.i l.shapes));
  short : AllByRecursion IsShortRow (take l.i l.shapes);
}
