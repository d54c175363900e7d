use Rattle.std.proofs.Common.{◌≡◌, map, take}
use Rattle.prefetch.specs.Settling.{handed_by}
use Rattle.prefetch.proofs.settled.all_handed.Given as goal

abbrev pub invariant-loop-sender : goal.invariant-loop-sender
invariant-loop-sender g l = l.handed.items ≡ map handed_by (take l.sender-index l.senders)
