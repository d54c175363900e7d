use Rattle.std.proofs.Common.{arith, length}
use Rattle.known_classes.specs.Known.{canonical}
use Rattle.known_classes.specs.Outwards.{outwards}
use Rattle.known_classes.proofs.Dots.{named_first, named_on, named_none, named_end}
use Rattle.known_classes.proofs.Steps.{step_none, step_some}
use Rattle.known_classes.proofs.canonical_text.canonical.Goals as goal

pub loop-step-init : goal.loop-step-init
loop-step-init g c = named_first (length (g.L.ClassList.listed c.args.known.now)) (g.L.ClassList.listed c.args.known.now) c.args.name.now c.in_ok-here.here c.new-tail.result c.in_ok-here.ensures.equal c.new-tail.ensures

pub returns-in_default : goal.returns-in_default
returns-in_default g c = named_none (length (g.L.ClassList.listed c.args.known.now)) c.loop-step._step (g.L.ClassList.listed c.args.known.now) (canonical (g.L.ClassList.listed c.args.known.now) c.args.name.now) c.loop-step.here c.loop-step.tail c.in_ok-text.text (omega (arith, c.count-step-end.ensures.size)) (step_none c.outwards.result (outwards (g.L.ClassList.listed c.args.known.now) c.loop-step.here) c.in_default.is c.outwards.ensures) c.in_ok-text.ensures c.loop-step.invariant

pub loop-step-preserved : goal.loop-step-preserved
loop-step-preserved g c = named_on (length (g.L.ClassList.listed c.args.known.now)) c.loop-step._step (g.L.ClassList.listed c.args.known.now) (canonical (g.L.ClassList.listed c.args.known.now) c.args.name.now) c.loop-step.here c.in-Some.step.outer.now c.in-Some.step.simple.now c.loop-step.tail c.in_ok-further.further c.in_ok-next.next (omega (arith, c.count-step-end.ensures.size)) (step_some c.outwards.result c.in-Some.step (outwards (g.L.ClassList.listed c.args.known.now) c.loop-step.here) c.in-Some.is c.outwards.ensures) c.in_ok-further.ensures c.in_ok-next.ensures.equal c.loop-step.invariant

pub returns : goal.returns
returns g c = named_end (length (g.L.ClassList.listed c.args.known.now)) c.loop-step._step (g.L.ClassList.listed c.args.known.now) (canonical (g.L.ClassList.listed c.args.known.now) c.args.name.now) c.loop-step.here c.loop-step.tail c.in_ok-whole.whole (omega (arith, c.count-step-end.ensures.size)) c.in_ok-whole.ensures c.loop-step.invariant
