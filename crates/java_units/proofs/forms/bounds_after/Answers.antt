use Rattle.std.proofs.Common.{rules}
use Rattle.java_units.specs.Signs.{seen}
use Rattle.java_units.specs.Forms.{bound_len}
use Rattle.java_units.proofs.Walks.{spans_none, spans_on, spans_end}
use Rattle.java_units.proofs.forms.bounds_after.Goals as goal

pub loop-n-init : goal.loop-n-init
loop-n-init c = spans_none bound_len (seen c.args.lexemes.now)

pub returns-then-len-eq0-clause-value : goal.returns-then-len-eq0-clause-value
returns-then-len-eq0-clause-value c = spans_end bound_len (seen c.args.lexemes.now) _ c.loop-n.n c.bound_len-len.result c.tail.ensures.rest c.bound_len-len.ensures.value (search rules) c.loop-n.invariant

pub loop-n-preserved : goal.loop-n-preserved
loop-n-preserved c = spans_on bound_len (seen c.args.lexemes.now) _ c.loop-n.n c.bound_len-len.result c.tail.ensures.rest c.bound_len-len.ensures.value (search rules) c.bound_len-len.ensures.within c.loop-n.invariant
