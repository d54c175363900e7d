use Rattle.std.proofs.Common.{take, refl, ◌∙◌, arith}
use Rattle.terms.proofs.Pairs.{pairs-go, pairs-stop, pairs-end, table-next}
use Rattle.terms.proofs.above.sets_of.Goals as goal

pub returns-in-Err-clause-first_fault : goal.returns-in-Err-clause-first_fault
returns-in-Err-clause-first_fault c = λ apart.
    c.loop-i.invariant.rest ∙ pairs-stop _ _ c.args.pairs.now c.loop-i.i _ _ _ c.loop-i.invariant.len (omega arith) refl (c.in-Err.ensures.fault apart (take c.loop-i.i c.args.pairs.now) c.loop-i.invariant.table)

pub loop-i-preserved : goal.loop-i-preserved
loop-i-preserved c = record {
  table = table-next c.args.pairs.now c.loop-i.i _ _ _ (omega arith) refl (c.in-Ok.ensures.added (take c.loop-i.i c.args.pairs.now) c.loop-i.invariant.table);
  len = c.add_pair.ensures.len ∙ c.loop-i.invariant.len;
  rest = c.loop-i.invariant.rest ∙ pairs-go _ _ c.args.pairs.now c.loop-i.i _ _ c.loop-i.invariant.len (omega arith) refl (c.in-Ok.ensures.sound (take c.loop-i.i c.args.pairs.now) c.loop-i.invariant.table);
}

pub returns-clause-sound : goal.returns-clause-sound
returns-clause-sound c = c.loop-i.invariant.rest ∙ pairs-end _ _ c.loop-i.i (omega arith)
