use Rattle.std.proofs.Common.{◌≡◌, [], List, length}
use Rattle.patterns.specs.Met.{AreSound}
use Rattle.patterns.specs.Worklist.{IsQuiet}
use Rattle.patterns.specs.declared.watchers.Use.{Use}
use Rattle.patterns.proofs.saturate.first_round.Given as goal

abbrev pub invariant-loop-place : goal.invariant-loop-place
invariant-loop-place l = record {
  as_many : length l.marks.items ≡ length l.initial.states.keys;
  sound : AreSound l.initial.sets l.initial.kinds.all.now l.initial.states.keys l.initial.marks.items → AreSound l.initial.sets l.initial.kinds.all.now l.initial.states.keys l.marks.items;
  quiet : (uses : List Use) → IsQuiet l.initial.sets l.initial.kinds.all.now l.initial.states.keys uses l.marks.items l.worklist.items 0 [] l.place;
}
