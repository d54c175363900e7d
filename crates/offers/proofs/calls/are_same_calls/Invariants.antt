use Rattle.std.proofs.Common.{◌≡◌, take, true}
use Rattle.std.specs.List.{list_all}
use Rattle.offers.specs.Functional.{is_same_call}
use Rattle.offers.proofs.calls.are_same_calls.Given as goal

abbrev pub invariant-loop-other : goal.invariant-loop-other
invariant-loop-other l = list_all (is_same_call l.method) (take l.other-index l.others) ≡ true
