use Rattle.std.proofs.Common.{ℕ, List, Contains}
use Rattle.graphs.specs.Graph.{Reaches}
use Rattle.graphs.specs.Joined.{AreRooted}
use Rattle.graphs.proofs.joined.mark_rooted.Given as goal

abbrev pub invariant-loop-node : goal.invariant-loop-node
invariant-loop-node l = (graph : List (List ℕ)) → ((b : ℕ) → Contains l.nodes b → Reaches graph l.root b) → AreRooted graph l.roots l.fn.marks.items → AreRooted graph l.roots l.marks.items
