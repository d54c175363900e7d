use Rattle.std.proofs.Common.{rules, ◌∙◌, sym, subst}
use Rattle.graphs.specs.Graph.{InRange}
use Rattle.graphs.proofs.tests.the_least_named_cycle_is_found.Goals as goal

pub least_cycle-requires : goal.least_cycle-requires
least_cycle-requires g c = record {
  range = subst InRange (c.deref.ensures.value ∙ sym c.deref-in-loop-edges.ensures.value) (c.is_in_range.ensures.sound (search rules));
}
