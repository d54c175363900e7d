use Rattle.std.proofs.Common.{◌≡◌, ◌++◌, take}
use Rattle.edges.specs.Made.{edges_at}
use Rattle.edges.proofs.state_edges.add_sources.Given as goal

abbrev pub invariant-loop-number : goal.invariant-loop-number
invariant-loop-number l = l.table ≡ l.initial.table ++ edges_at l.env l.compressed l.patterns l.initial.state (take l.number-index l.initial.sources)
