use Rattle.std.proofs.Common.{rules, sym, ◌∙◌}
use Rattle.java_units.proofs.Walks.{has-hit, has-on, has-end}
use Rattle.java_resolve.proofs.word.has.Goals as goal

pub returns-then-same : goal.returns-then-same
returns-then-same c = has-hit c.args.table.now c.loop-i.i _ c.args.word.now (search rules) (sym c.same.ensures ∙ c.if-same.true) c.loop-i.invariant

pub loop-i-preserved : goal.loop-i-preserved
loop-i-preserved c = has-on c.args.table.now c.loop-i.i _ c.args.word.now (search rules) (sym c.same.ensures ∙ c.if-same.false) c.loop-i.invariant

pub returns : goal.returns
returns c = has-end c.args.table.now c.loop-i.i c.args.word.now (search rules) c.loop-i.invariant
