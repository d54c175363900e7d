use Rattle.std.proofs.Common.{refl, arith}
use Rattle.std.proofs.lemmas.Option.{slice_get_read}
use Rattle.patterns.proofs.Bindings.{grown-both, placed-next, binding-next}
use Rattle.patterns.proofs.Tables.{length-pushed}
use Rattle.patterns.proofs.steps.row_of.Goals as goal

pub loop-n-preserved : goal.loop-n-preserved
loop-n-preserved c =
    let at = slice_get_read c.args.needs.now _ c.loop-n.n c.index-needs-n.result refl (omega arith) c.index-needs-n.is in
    record {
      long = length-pushed _ _ _ _ c.in_ok-push.ensures.ok c.loop-n.invariant.long;
      placed = placed-next _ _ _ _ _ _ c.loop-n.n c.in_ok-step_of.field-0 c.index-needs-n.result at c.step_of.ensures.grown c.in_ok-step_of.ensures.numbered c.in_ok-push.ensures.ok c.loop-n.invariant.long c.loop-n.invariant.placed;
      grown = grown-both _ _ _ c.loop-n.invariant.grown c.step_of.ensures.grown;
      only = binding-next _ _ _ _ _ c.loop-n.n c.index-needs-n.result at c.loop-n.invariant.grown c.loop-n.invariant.only c.in_ok-step_of.ensures.only;
    }
