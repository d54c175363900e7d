use Rattle.std.proofs.Common.{◌≡◌, ◌≤◌, ℕ, drop, length}
use Rattle.patterns.specs.Met.{AreSound}
use Rattle.patterns.specs.Worklist.{IsQuiet}
use Rattle.patterns.proofs.saturate.wake.Given as goal

abbrev pub invariant-loop-number : goal.invariant-loop-number
invariant-loop-number l = record {
  as_many : length l.marks.items ≡ length l.initial.states.keys;
  longer : length l.initial.worklist.items ≤ length l.worklist.items;
  sound : AreSound l.initial.sets l.initial.kinds l.initial.states.keys l.initial.marks.items → AreSound l.initial.sets l.initial.kinds l.initial.states.keys l.marks.items;
  quiet : (i count : ℕ) → i ≤ length l.initial.worklist.items → IsQuiet l.initial.sets l.initial.kinds l.initial.states.keys l.initial.uses l.initial.marks.items l.initial.worklist.items i l.initial.numbers count → IsQuiet l.initial.sets l.initial.kinds l.initial.states.keys l.initial.uses l.marks.items l.worklist.items i (drop l.number-index l.initial.numbers) count;
}
