use Rattle.std.proofs.Common.{◌≡◌, ◌++◌, ◌-◌}
use Rattle.workload.specs.Samples.{types_drawn}
use Rattle.workload.proofs.sample.push_types.Given as goal

abbrev pub invariant-loop-type : goal.invariant-loop-type
invariant-loop-type l = record {
  text : l.text ++ (types_drawn (l.count - l._type) l.state).0 ≡ l.fn.text ++ (types_drawn l.count l.fn.state).0;
  state : (types_drawn (l.count - l._type) l.state).1 ≡ (types_drawn l.count l.fn.state).1;
}
