use Rattle.std.proofs.Common.{◌≡◌, ◌-◌, length}
use Rattle.std.specs.List.{list_any}
use Rattle.offers.specs.Reach.{is_in_reach, chain, chain_by}
use Rattle.offers.specs.Views.{scene}
use Rattle.offers.proofs.offered.is_reached.Given as goal

abbrev pub invariant-loop-met : goal.invariant-loop-met
invariant-loop-met l = list_any (is_in_reach (scene l.view)) (chain (scene l.view) l.name) ≡ list_any (is_in_reach (scene l.view)) (chain_by (length l.view.known - l._met) l.view.known l.here)
