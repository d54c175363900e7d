use Rattle.reconstruction.specs.Totals.{IsLightest}
use Rattle.reconstruction.proofs.totals.lightest_of.Given as goal

abbrev pub invariant-loop-edge : goal.invariant-loop-edge
invariant-loop-edge l = IsLightest l.initial.parts l.initial.edges l.initial.totals l.initial.start l.edge l.least
