use Rattle.std.proofs.Common.{take}
use Rattle.java_resolve.specs.Index.{ArePlaces}
use Rattle.java_resolve.proofs.index.key_places.Given as goal

abbrev pub invariant-loop-decl : goal.invariant-loop-decl
invariant-loop-decl l = ArePlaces l.names (take l.decl-index l.decls) l.places.items
