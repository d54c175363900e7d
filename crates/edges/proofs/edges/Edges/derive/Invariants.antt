use Rattle.std.proofs.Common.{◌≡◌, ◌<◌, length}
use Rattle.edges.specs.Made.{edges_below, starts_below}
use Rattle.edges.proofs.edges.Edges.derive.Given as goal

abbrev pub invariant-loop-i : goal.invariant-loop-i
invariant-loop-i l = record {
  table : l.table ≡ edges_below l.env l.compressed l.patterns l.i;
  starts : l.starts.items ≡ starts_below l.env l.compressed l.patterns l.i;
  small : length l.table < 4294967296;
}
