use Rattle.std.proofs.Common.{arith, ◌+◌, ◌-◌}
use Rattle.workload.proofs.Drawing.{class_added, class_passed, every_class, last_class}
use Rattle.workload.proofs.sample.all_classes.Goals as goal

pub loop-number-preserved : goal.loop-number-preserved
loop-number-preserved c =
    let n = c.loop-number.number in
    record {
      classes = class_added _ _ _ (200 - n) (200 - (n + 1)) n (n + 1) _ _ c.in_ok-class.class (omega arith) (omega arith) c.in_ok-class.ensures.state c.in_ok-class.ensures.class c.in_ok-push.ensures.ok c.loop-number.invariant.classes;
      state = class_passed (200 - n) (200 - (n + 1)) n (n + 1) _ _ _ (omega arith) (omega arith) c.in_ok-class.ensures.state c.loop-number.invariant.state;
    }

pub returns-clause-classes : goal.returns-clause-classes
returns-clause-classes c = every_class _ _ (200 - c.loop-number.number) c.loop-number.number _ (omega arith) c.loop-number.invariant.classes

pub returns-clause-state : goal.returns-clause-state
returns-clause-state c = last_class (200 - c.loop-number.number) c.loop-number.number _ _ (omega arith) c.loop-number.invariant.state
