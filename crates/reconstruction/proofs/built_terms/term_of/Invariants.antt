use Rattle.std.proofs.Common.{◌<◌, length, get_or, []}
use Rattle.reconstruction.specs.Tabled.{front_of}
use Rattle.partial_terms.specs.Built.{stacked, IsRead}
use Rattle.reconstruction.proofs.built_terms.term_of.Given as goal

abbrev pub invariant-loop-number : goal.invariant-loop-number
invariant-loop-number l = record {
  inside : l.at < length l.initial.arena.fronts;
  read : IsRead l.initial.tables.env (front_of l.initial.arena l.initial.front) (front_of l.initial.arena l.at) (stacked l.stack.items);
}

abbrev pub decreases-loop-number : goal.decreases-loop-number
decreases-loop-number l = length (get_or l.initial.arena.fronts l.at [])
