use Rattle.std.proofs.Common.{◌≡◌, take, false}
use Rattle.std.specs.List.{list_any}
use Rattle.offers.specs.Functional.{is_body}
use Rattle.offers.proofs.calls.has_body.Given as goal

abbrev pub invariant-loop-other : goal.invariant-loop-other
invariant-loop-other l = list_any (is_body l.method) (take l.other-index l.others) ≡ false
