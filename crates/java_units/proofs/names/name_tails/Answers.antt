use Rattle.std.proofs.Common.{rules}
use Rattle.java_units.specs.Signs.{seen}
use Rattle.java_units.specs.Forms.{name_tail}
use Rattle.java_units.proofs.Walks.{spans_none, spans_on, spans_end}
use Rattle.java_units.proofs.names.name_tails.Goals as goal

pub loop-n-init : goal.loop-n-init
loop-n-init c = spans_none name_tail (seen c.args.lexemes.now)

pub returns-then-len-eq0-clause-value : goal.returns-then-len-eq0-clause-value
returns-then-len-eq0-clause-value c = spans_end name_tail (seen c.args.lexemes.now) _ c.loop-n.n c.name_tail-len.result c.tail.ensures.rest c.name_tail-len.ensures.value (search rules) c.loop-n.invariant

pub loop-n-preserved : goal.loop-n-preserved
loop-n-preserved c = spans_on name_tail (seen c.args.lexemes.now) _ c.loop-n.n c.name_tail-len.result c.tail.ensures.rest c.name_tail-len.ensures.value (search rules) c.name_tail-len.ensures.within c.loop-n.invariant
