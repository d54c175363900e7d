use Rattle.std.proofs.Common.{rules, sym, ◌∙◌}
use Rattle.java_bodies.specs.Places.{touches, touched}
use Rattle.java_bodies.proofs.Loops.{find_hit, find_on, find_end}
use Rattle.java_bodies.proofs.places.touched.Goals as goal

pub returns-then-touches : goal.returns-then-touches
unfolding touched
returns-then-touches c = find_hit (touches c.args.place) c.args.tokens.now c.loop-i.i _ _ (search rules) (sym c.touches.ensures ∙ c.if-touches.true) c.loop-i.invariant

pub loop-i-preserved : goal.loop-i-preserved
loop-i-preserved c = find_on (touches c.args.place) c.args.tokens.now c.loop-i.i _ _ (search rules) (sym c.touches.ensures ∙ c.if-touches.false) c.loop-i.invariant

pub returns : goal.returns
unfolding touched
returns c = find_end (touches c.args.place) c.args.tokens.now c.loop-i.i _ (search rules) c.loop-i.invariant
