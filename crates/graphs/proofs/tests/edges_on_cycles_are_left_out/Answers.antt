use Rattle.std.proofs.Common.{rules, ◌∙◌, sym, subst}
use Rattle.graphs.specs.Graph.{InRange}
use Rattle.graphs.proofs.tests.edges_on_cycles_are_left_out.Goals as goal

pub without_cycles-requires : goal.without_cycles-requires
without_cycles-requires g c = record {
  range = subst InRange (c.deref.ensures.value ∙ sym c.deref-in-loop-edges.ensures.value) (c.is_in_range.ensures.sound (search rules));
}
