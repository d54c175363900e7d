use Rattle.std.proofs.Common.{◌≡◌, ◌-◌, length}
use Rattle.std.specs.List.{list_all}
use Rattle.known_classes.specs.Known.{class_named}
use Rattle.offers.specs.Scenes.{is_open}
use Rattle.offers.specs.Reach.{access_of, chain, chain_by}
use Rattle.offers.specs.Views.{scene}
use Rattle.offers.proofs.offered.are_shown.Given as goal

abbrev pub invariant-loop-met : goal.invariant-loop-met
invariant-loop-met l =
    list_all (λ c. is_open (scene l.view) c (access_of (class_named l.view.known c))) (chain (scene l.view) l.name)
    ≡ list_all (λ c. is_open (scene l.view) c (access_of (class_named l.view.known c))) (chain_by (length l.view.known - l._met) l.view.known l.here)
