use Rattle.std.proofs.Common.{◌<◌, List, length, IfOk, subst, sym, arith}
use Rattle.patterns.specs.declared.state.State.{State}
use Rattle.terms.specs.declared.parts.Parts.{Parts}
use Rattle.reconstruction.specs.Usable.{AreUsable}
use Rattle.reconstruction.proofs.tables.usable_for.Goals as goal

pub all_usable-requires : goal.all_usable-requires
all_usable-requires c = record {
  in_range = λ m e at. subst (λ (l : List State). e.state < length l) (sym c.states-states.ensures.value) (c.requires.in_range m e at);
  few = omega (arith, c.if-states-gt4294967295.false);
}

pub returns : goal.returns
returns c = record { usable = subst (λ (g : Parts). IfOk c.all_usable.result (λ rows. AreUsable g.limit c.args.floors.now c.args.edges.now rows)) c.parts.ensures.value c.all_usable.ensures.usable }
