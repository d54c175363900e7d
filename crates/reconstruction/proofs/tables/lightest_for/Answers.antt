use Rattle.std.proofs.Common.{◌<◌, List, length, IfOk, subst, sym, arith}
use Rattle.patterns.specs.declared.state.State.{State}
use Rattle.terms.specs.declared.parts.Parts.{Parts}
use Rattle.reconstruction.specs.Totals.{AreLightest}
use Rattle.reconstruction.proofs.tables.lightest_for.Goals as goal

pub all_lightest-requires : goal.all_lightest-requires
all_lightest-requires c = record {
  as_many = c.requires.as_many;
  in_range = λ m e at. subst (λ (l : List State). e.state < length l) (sym c.states-states.ensures.value) (c.requires.in_range m e at);
  few = omega (arith, c.if-states-gt4294967295.false);
}

pub returns : goal.returns
returns c = record { light = subst (λ (g : Parts). IfOk c.all_lightest.result (λ all. AreLightest g c.args.edges.now c.args.totals.now all)) c.parts.ensures.value c.all_lightest.ensures.light }
