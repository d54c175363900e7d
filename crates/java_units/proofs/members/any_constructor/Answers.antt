use Rattle.std.proofs.Common.{rules, sym, ◌∙◌}
use Rattle.java_units.specs.Members.{has_constructor}
use Rattle.java_units.proofs.Lists.{any_hit, any_on, any_end}
use Rattle.java_units.proofs.members.any_constructor.Goals as goal

pub returns-then-has_constructor : goal.returns-then-has_constructor
returns-then-has_constructor c = any_hit (has_constructor c.args.name.now) c.args.places.now c.loop-i.i _ _ (search rules) (sym c.has_constructor.ensures ∙ c.if-has_constructor.true) c.loop-i.invariant

pub loop-i-preserved : goal.loop-i-preserved
loop-i-preserved c = any_on (has_constructor c.args.name.now) c.args.places.now c.loop-i.i _ _ (search rules) (sym c.has_constructor.ensures ∙ c.if-has_constructor.false) c.loop-i.invariant

pub returns : goal.returns
returns c = any_end (has_constructor c.args.name.now) c.args.places.now c.loop-i.i _ (search rules) c.loop-i.invariant
