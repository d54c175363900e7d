use Rattle.std.proofs.Common.{rules, sym, ◌∙◌}
use Rattle.java_units.specs.Forms.{begins}
use Rattle.java_units.proofs.Lists.{any_hit, any_on, any_end}
use Rattle.java_units.proofs.access.has.Goals as goal

pub returns-then-begins : goal.returns-then-begins
returns-then-begins c = any_hit (begins c.args.word.now) c.args.places.now c.loop-i.i _ _ (search rules) (sym c.begins.ensures.value ∙ c.if-begins.true) c.loop-i.invariant

pub loop-i-preserved : goal.loop-i-preserved
loop-i-preserved c = any_on (begins c.args.word.now) c.args.places.now c.loop-i.i _ _ (search rules) (sym c.begins.ensures.value ∙ c.if-begins.false) c.loop-i.invariant

pub returns : goal.returns
returns c = any_end (begins c.args.word.now) c.args.places.now c.loop-i.i _ (search rules) c.loop-i.invariant
