use Rattle.std.proofs.Common.{◌∙◌, sym, subst}
use Rattle.graphs.specs.Graph.{InRange}
use Rattle.subtyping.specs.Places.{IsWithout, AreRows, graph_of}
use Rattle.subtyping.proofs.Nodes.{graph-range, steps-range, ancestry-of}
use Rattle.subtyping.proofs.subtypes.Subtypes.new.Goals as goal

pub steps_of-requires-clause-range : goal.steps_of-requires-clause-range
steps_of-requires-clause-range g c = subst InRange (sym (c.as_slice.ensures ∙ c.in_ok-graph.ensures)) (graph-range (g.C.Classes.listed c.args.known.now) c.in_ok-names.names)

pub rows_above-requires : goal.rows_above-requires
rows_above-requires g c =
    let without : IsWithout c.in_ok-names.names (graph_of (g.C.Classes.listed c.args.known.now) c.in_ok-names.names) c.in_ok-steps.steps = subst (λ k. IsWithout c.in_ok-names.names k c.in_ok-steps.steps) (c.as_slice.ensures ∙ c.in_ok-graph.ensures) c.in_ok-steps.ensures in
    record { range = subst InRange (sym c.as_slice-2.ensures) (steps-range (g.C.Classes.listed c.args.known.now) c.in_ok-names.names c.in_ok-steps.steps without) }

pub returns : goal.returns
returns g c =
    let without : IsWithout c.in_ok-names.names (graph_of (g.C.Classes.listed c.args.known.now) c.in_ok-names.names) c.in_ok-steps.steps = subst (λ k. IsWithout c.in_ok-names.names k c.in_ok-steps.steps) (c.as_slice.ensures ∙ c.in_ok-graph.ensures) c.in_ok-steps.ensures in
    let rows : AreRows c.in_ok-steps.steps c.in_ok-rows.rows = subst (λ k. AreRows k c.in_ok-rows.rows) c.as_slice-2.ensures c.in_ok-rows.ensures in
    record { of_known = ancestry-of (g.C.Classes.listed c.args.known.now) c.in_ok-names.names c.in_ok-steps.steps c.in_ok-names.ensures without c.in_ok-rows.rows rows }

pub invariant_of-result : goal.invariant_of-result
invariant_of-result g c = c.in_ok-rows.ensures.rises
