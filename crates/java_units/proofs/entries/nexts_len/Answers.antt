use Rattle.std.proofs.Common.{rules}
use Rattle.java_units.specs.Signs.{seen}
use Rattle.java_units.specs.Forms.{next_len}
use Rattle.java_units.proofs.Walks.{spans_none, spans_on, spans_end}
use Rattle.java_units.proofs.entries.nexts_len.Goals as goal

pub loop-entry-init : goal.loop-entry-init
loop-entry-init c = spans_none (next_len c.args.entry) (seen c.args.lexemes.now)

pub returns-then-len-eq0-clause-value : goal.returns-then-len-eq0-clause-value
returns-then-len-eq0-clause-value c = spans_end (next_len c.args.entry) (seen c.args.lexemes.now) _ c.loop-entry.n c.next_len-len.result c.tail.ensures.rest c.next_len-len.ensures.value (search rules) c.loop-entry.invariant

pub loop-entry-preserved : goal.loop-entry-preserved
loop-entry-preserved c = spans_on (next_len c.args.entry) (seen c.args.lexemes.now) _ c.loop-entry.n c.next_len-len.result c.tail.ensures.rest c.next_len-len.ensures.value (search rules) c.next_len-len.ensures.within c.loop-entry.invariant
