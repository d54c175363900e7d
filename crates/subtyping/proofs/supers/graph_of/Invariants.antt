use Rattle.std.proofs.Common.{◌≡◌, map, take}
use Rattle.subtyping.specs.Places.{row_of}
use Rattle.subtyping.proofs.supers.graph_of.Given as goal

abbrev pub invariant-loop-name : goal.invariant-loop-name
invariant-loop-name g l = l.rows ≡ map (row_of (g.C.Classes.listed l.known) l.names) (take l.name-index l.names)
