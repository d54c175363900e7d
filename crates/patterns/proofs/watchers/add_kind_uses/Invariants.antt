use Rattle.std.proofs.Common.{take, length}
use Rattle.succinct.specs.Numbering.{IsGrown}
use Rattle.patterns.specs.Worklist.{AreTargets, AreUsedBy}
use Rattle.patterns.proofs.watchers.add_kind_uses.Given as goal

abbrev pub invariant-loop-need : goal.invariant-loop-need
invariant-loop-need l = record {
  used : AreUsedBy l.initial.sets l.initial.states.keys l.uses.items l.initial.from l.initial.place l.initial.kind (take l.need-index l.initial.needs);
  grown : IsGrown l.initial.uses.items l.uses.items;
  in_range : AreTargets (length l.initial.states.keys) l.initial.uses.items → AreTargets (length l.initial.states.keys) l.uses.items;
}
