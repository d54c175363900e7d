use Rattle.std.proofs.Common.{refl, rules}
use Rattle.patterns.proofs.Mets.{grown-trans}
use Rattle.std.proofs.lemmas.List.{take_all}
use Rattle.patterns.proofs.Used.{used-kinds, used-kinds-all}
use Rattle.patterns.proofs.watchers.add_state_uses.Goals as goal

pub loop-kind-preserved : goal.loop-kind-preserved
loop-kind-preserved c = record {
  used = used-kinds c.args.sets.now c.args.kinds.now c.args.states.now.keys c.needs_of-needs.result.now _ _ c.args.from c.args.place c.args.ending.now c.loop-kind.kind-index _ 0 (search rules) refl c.in_ok-add_kind_uses.ensures.grown c.needs_of-needs.ensures.value c.in_ok-add_kind_uses.ensures.used c.loop-kind.invariant.used;
  grown = grown-trans _ _ _ c.loop-kind.invariant.grown c.in_ok-add_kind_uses.ensures.grown;
  in_range = λ before. c.in_ok-add_kind_uses.ensures.in_range (c.loop-kind.invariant.in_range before);
}

pub returns-clause-used : goal.returns-clause-used
returns-clause-used c = used-kinds-all c.args.sets.now c.args.kinds.now c.args.states.now.keys _ c.args.from c.args.place _ _ (take_all _ _ (search rules)) c.loop-kind.invariant.used
