use Rattle.std.proofs.Common.{refl, rules}
use Rattle.patterns.proofs.Mets.{grown-trans}
use Rattle.patterns.proofs.Used.{used-more}
use Rattle.patterns.proofs.watchers.add_kind_uses.Goals as goal

pub loop-need-preserved : goal.loop-need-preserved
loop-need-preserved c = record {
  used = used-more c.args.sets.now c.args.states.now.keys _ _ c.args.from c.args.place c.args.kind c.args.needs.now c.loop-need.need-index _ 0 (search rules) refl c.in_ok-add_use.ensures.grown c.in_ok-add_use.ensures.used c.loop-need.invariant.used;
  grown = grown-trans _ _ _ c.loop-need.invariant.grown c.in_ok-add_use.ensures.grown;
  in_range = λ before. c.in_ok-add_use.ensures.in_range (c.loop-need.invariant.in_range before);
}
