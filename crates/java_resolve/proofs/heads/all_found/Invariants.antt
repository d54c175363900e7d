use Rattle.std.proofs.Common.{◌≡◌, map, drop, length}
use Rattle.java_resolve.specs.Found.{all_in}
use Rattle.java_resolve.specs.Trees.{args_found_view, place_view}
use Rattle.java_resolve.proofs.Gathering.{cat}
use Rattle.java_resolve.proofs.heads.all_found.Given as goal

abbrev pub invariant-loop-i : goal.invariant-loop-i
invariant-loop-i l = record {
  long : length l.places ≡ length l.args;
  rest : cat (args_found_view l.all) (all_in l.env l.crowded (map place_view (drop l.i l.places)) (drop l.i l.args)) ≡ all_in l.env l.crowded (map place_view l.places) l.args;
}
