use Rattle.std.proofs.Common.{◌≡◌, take}
use Rattle.std.specs.List.{filter, flat_map}
use Rattle.offers.specs.Candidates.{candidates}
use Rattle.offers.specs.Omissions.{is_named, firsts}
use Rattle.offers.specs.Views.{scene}
use Rattle.offers.proofs.repeats.after_two.Given as goal

abbrev pub invariant-loop-class : goal.invariant-loop-class
invariant-loop-class l = l.all ≡ flat_map (λ c. firsts (filter (is_named (scene l.view)) (candidates (scene l.view) c))) (take l.class-index l.classes)
