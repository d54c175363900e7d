use Rattle.std.proofs.Common.{◌≡◌, ◌≤◌, ◌++◌, vec_len}
use Rattle.std.specs.List.Sorted.{IsPermutation}
use Rattle.reconstruction.proofs.agenda.flush.Given as goal

abbrev pub invariant-loop-key : goal.invariant-loop-key
invariant-loop-key l = record {
  room : vec_len l.aside ≤ l.queue.spare;
  moved : IsPermutation (l.fn.aside.items ++ l.fn.queue.items) (l.aside.items ++ l.queue.items);
  pops : l.queue.pops ≡ l.fn.queue.pops;
}

abbrev pub decreases-loop-key : goal.decreases-loop-key
decreases-loop-key l = vec_len l.aside
