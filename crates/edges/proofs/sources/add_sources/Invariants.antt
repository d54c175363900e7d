use Rattle.std.proofs.Common.{◌≡◌, ◌++◌, take}
use Rattle.edges.specs.Made.{sources_in}
use Rattle.edges.proofs.sources.add_sources.Given as goal

abbrev pub invariant-loop-kind : goal.invariant-loop-kind
invariant-loop-kind l = l.numbers.items ≡ l.initial.numbers.items ++ sources_in l.compressed.selected (take l.kind-index l.initial.kinds)
