use Rattle.std.proofs.Common.{rules}
use Rattle.java_units.specs.Signs.{seen}
use Rattle.java_units.proofs.Walks.{spans_none, spans_on, spans_end}
use Rattle.java_bodies.specs.Variables.{alternative_len}
use Rattle.java_bodies.proofs.headers.alternatives_len.Goals as goal

pub loop-n-init : goal.loop-n-init
loop-n-init c = spans_none alternative_len (seen c.args.lexemes.now)

pub returns-then-len-eq0-clause-value : goal.returns-then-len-eq0-clause-value
returns-then-len-eq0-clause-value c = spans_end alternative_len (seen c.args.lexemes.now) _ c.loop-n.n c.alternative_len-len.result c.tail.ensures.rest c.alternative_len-len.ensures.value (search rules) c.loop-n.invariant

pub loop-n-preserved : goal.loop-n-preserved
loop-n-preserved c = spans_on alternative_len (seen c.args.lexemes.now) _ c.loop-n.n c.alternative_len-len.result c.tail.ensures.rest c.alternative_len-len.ensures.value (search rules) c.alternative_len-len.ensures.within c.loop-n.invariant
