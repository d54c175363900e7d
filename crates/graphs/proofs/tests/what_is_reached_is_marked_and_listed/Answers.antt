use Rattle.std.proofs.Common.{rules, ◌∙◌, sym, subst}
use Rattle.graphs.specs.Graph.{InRange}
use Rattle.graphs.proofs.tests.what_is_reached_is_marked_and_listed.Goals as goal

pub ancestors-requires-clause-range : goal.ancestors-requires-clause-range
ancestors-requires-clause-range g c = subst InRange (c.deref.ensures.value ∙ sym c.deref-in-loop-edges-2.ensures.value) (c.is_in_range.ensures.sound (search rules))

pub reached-requires : goal.reached-requires
reached-requires g c = record {
  range = subst InRange (c.deref.ensures.value ∙ sym c.deref-in-loop-edges-4.ensures.value) (c.is_in_range.ensures.sound (search rules));
}
