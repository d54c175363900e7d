use Rattle.std.proofs.Common.{◌≡◌, map, drop}
use Rattle.java_resolve.specs.Found.{join, suits, pick}
use Rattle.java_resolve.specs.Trees.{found_view, entry_view}
use Rattle.java_resolve.proofs.found.pick.Given as goal

abbrev pub invariant-loop-entry : goal.invariant-loop-entry
invariant-loop-entry l = join (found_view l.found) (pick (suits l.env l.crowded l.cast l.wanted) (map entry_view (drop l.entry-index l.entries))) ≡ pick (suits l.env l.crowded l.cast l.wanted) (map entry_view l.entries)
