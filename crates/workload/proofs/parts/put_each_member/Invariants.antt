use Rattle.std.proofs.Common.{◌≡◌, ◌++◌, take, map}
use Rattle.std.specs.List.{flat_map, AllByRecursion}
use Rattle.class_shape.specs.Parts.{member}
use Rattle.workload.specs.Layout.{member_in}
use Rattle.workload.specs.Flags.{IsShortMember}
use Rattle.workload.proofs.parts.put_each_member.Given as goal

abbrev pub invariant-loop-i : goal.invariant-loop-i
invariant-loop-i l = record {
  written : l.out.items ≡ l.initial.out.items ++ flat_map member (map (member_in l.plan) (take l.i l.shapes));
  short : AllByRecursion IsShortMember (take l.i l.shapes);
}
