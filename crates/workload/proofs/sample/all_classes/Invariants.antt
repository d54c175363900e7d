use Rattle.std.proofs.Common.{◌≡◌, ◌++◌, ◌-◌}
use Rattle.workload.specs.Samples.{classes_drawn}
use Rattle.workload.proofs.sample.all_classes.Given as goal

abbrev pub invariant-loop-number : goal.invariant-loop-number
invariant-loop-number l = record {
  classes : l.all ++ (classes_drawn (200 - l.number) l.number l.state).0 ≡ (classes_drawn 200 0 l.fn.state).0;
  state : (classes_drawn (200 - l.number) l.number l.state).1 ≡ (classes_drawn 200 0 l.fn.state).1;
}
