use Rattle.std.proofs.Common.{◌≡◌, ◌++◌, map, drop}
use Rattle.java_resolve.specs.Found.{headed_in}
use Rattle.java_resolve.specs.Trees.{entry_view, place_view}
use Rattle.java_resolve.proofs.heads.headed.Given as goal

abbrev pub invariant-loop-number : goal.invariant-loop-number
invariant-loop-number l = map entry_view l.entries ++ headed_in l.env l.kind (drop l.number-index l.numbers) (map place_view l.places) ≡ headed_in l.env l.kind l.numbers (map place_view l.places)
