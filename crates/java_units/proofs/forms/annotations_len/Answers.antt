use Rattle.std.proofs.Common.{rules}
use Rattle.java_units.specs.Signs.{seen}
use Rattle.java_units.specs.Forms.{annotation_len}
use Rattle.java_units.proofs.Walks.{spans_none, spans_on, spans_end}
use Rattle.java_units.proofs.forms.annotations_len.Goals as goal

pub loop-n-init : goal.loop-n-init
loop-n-init c = spans_none annotation_len (seen c.args.lexemes.now)

pub returns-then-len-eq0-clause-value : goal.returns-then-len-eq0-clause-value
returns-then-len-eq0-clause-value c = spans_end annotation_len (seen c.args.lexemes.now) _ c.loop-n.n c.annotation_len-len.result c.tail.ensures.rest c.annotation_len-len.ensures.value (search rules) c.loop-n.invariant

pub loop-n-preserved : goal.loop-n-preserved
loop-n-preserved c = spans_on annotation_len (seen c.args.lexemes.now) _ c.loop-n.n c.annotation_len-len.result c.tail.ensures.rest c.annotation_len-len.ensures.value (search rules) c.annotation_len-len.ensures.within c.loop-n.invariant
