use Rattle.std.proofs.Common.{◌≡◌, [], length}
use Rattle.patterns.specs.Met.{AreSound}
use Rattle.patterns.specs.Worklist.{IsQuiet}
use Rattle.patterns.proofs.saturate.look.Given as goal

abbrev pub invariant-loop-i : goal.invariant-loop-i
invariant-loop-i l = record {
  as_many : length l.marks.items ≡ length l.initial.states.keys;
  sound : AreSound l.initial.sets l.initial.kinds l.initial.states.keys l.initial.marks.items → AreSound l.initial.sets l.initial.kinds l.initial.states.keys l.marks.items;
  quiet : IsQuiet l.initial.sets l.initial.kinds l.initial.states.keys l.initial.uses l.marks.items l.worklist.items l.i [] (length l.initial.states.keys);
}
