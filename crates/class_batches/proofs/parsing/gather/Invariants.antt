use Rattle.std.proofs.Common.{◌≡◌, length, map, take, Ok}
use Rattle.class_batches.proofs.parsing.gather.Given as goal

abbrev pub invariant-loop-answer : goal.invariant-loop-answer
invariant-loop-answer l = record {
  counted : length l.yielded ≡ length l.classes;
  so_far : take (length l.classes) l.fn.parsed.items ≡ map Ok l.classes;
}
