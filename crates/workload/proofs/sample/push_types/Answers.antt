use Rattle.std.proofs.Common.{arith, ◌+◌, ◌-◌}
use Rattle.workload.proofs.Drawing.{type_added, type_passed, all_types, last_type}
use Rattle.workload.proofs.sample.push_types.Goals as goal

pub loop-type-preserved : goal.loop-type-preserved
loop-type-preserved c =
    let left = c.args.count - c.loop-type._type in
    let m = c.args.count - (c.loop-type._type + 1) in
    record {
      text = type_added _ _ _ left m _ _ c.draw-number.result (omega arith) c.draw-number.ensures.drawn c.draw-number.ensures.picked c.in_ok-push_type.ensures c.loop-type.invariant.text;
      state = type_passed left m _ _ _ (omega arith) c.draw-number.ensures.drawn c.loop-type.invariant.state;
    }

pub returns-clause-text : goal.returns-clause-text
returns-clause-text c = all_types _ _ (c.args.count - c.loop-type._type) _ (omega arith) c.loop-type.invariant.text

pub returns-clause-state : goal.returns-clause-state
returns-clause-state c = last_type (c.args.count - c.loop-type._type) _ _ (omega arith) c.loop-type.invariant.state
