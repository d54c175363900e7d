use Rattle.std.proofs.Common.{◌∙◌, ◌-◌, ap, sym, arith, length}
use Rattle.std.specs.Option.{option_copied}
use Rattle.known_classes.specs.Known.{comes_to, outer_of}
use Rattle.known_classes.proofs.Dots.{come_first, come_none, come_hit, come_on, come_end}
use Rattle.known_classes.proofs.canonical_text.cycles.Goals as goal

pub loop-step-init : goal.loop-step-init
loop-step-init g c = come_first (length (g.L.ClassList.listed c.args.known.now)) (g.L.ClassList.listed c.args.known.now) c.args.name.now (outer_of (g.L.ClassList.listed c.args.known.now) c.args.name.now) (option_copied c.outer_of-next.result) c.outer_of-next.ensures

pub returns-in_default : goal.returns-in_default
returns-in_default g c = come_none ((length (g.L.ClassList.listed c.args.known.now)) - c.loop-step._step) (g.L.ClassList.listed c.args.known.now) c.args.name.now (comes_to (length (g.L.ClassList.listed c.args.known.now)) (g.L.ClassList.listed c.args.known.now) c.args.name.now (outer_of (g.L.ClassList.listed c.args.known.now) c.args.name.now)) (option_copied c.loop-step.next) (ap option_copied c.in_default.is) c.loop-step.invariant

pub returns-then-same : goal.returns-then-same
returns-then-same g c = come_hit (length (g.L.ClassList.listed c.args.known.now)) c.loop-step._step (g.L.ClassList.listed c.args.known.now) c.args.name.now c.in-Some.outer.now (comes_to (length (g.L.ClassList.listed c.args.known.now)) (g.L.ClassList.listed c.args.known.now) c.args.name.now (outer_of (g.L.ClassList.listed c.args.known.now) c.args.name.now)) (option_copied c.loop-step.next) (omega (arith, c.count-step-end.ensures.size)) (ap option_copied c.in-Some.is) (sym c.same.ensures ∙ c.if-same.true) c.loop-step.invariant

pub loop-step-preserved : goal.loop-step-preserved
loop-step-preserved g c = come_on (length (g.L.ClassList.listed c.args.known.now)) c.loop-step._step (g.L.ClassList.listed c.args.known.now) c.args.name.now c.in-Some.outer.now (comes_to (length (g.L.ClassList.listed c.args.known.now)) (g.L.ClassList.listed c.args.known.now) c.args.name.now (outer_of (g.L.ClassList.listed c.args.known.now) c.args.name.now)) (option_copied c.loop-step.next) (option_copied c.outer_of-further.result) (omega (arith, c.count-step-end.ensures.size)) (ap option_copied c.in-Some.is) (sym c.same.ensures ∙ c.if-same.false) c.outer_of-further.ensures c.loop-step.invariant

pub returns : goal.returns
returns g c = come_end (length (g.L.ClassList.listed c.args.known.now)) c.loop-step._step (g.L.ClassList.listed c.args.known.now) c.args.name.now (comes_to (length (g.L.ClassList.listed c.args.known.now)) (g.L.ClassList.listed c.args.known.now) c.args.name.now (outer_of (g.L.ClassList.listed c.args.known.now) c.args.name.now)) (option_copied c.loop-step.next) (omega (arith, c.count-step-end.ensures.size)) c.loop-step.invariant
