use Rattle.std.proofs.Common.{◌+◌, ◌-◌, length}
use Rattle.graphs.proofs.Marks.{free}
use Rattle.graphs.proofs.Listing.{IsListing}
use Rattle.graphs.proofs.reach.list_reached.Given as goal

abbrev pub invariant-loop-next : goal.invariant-loop-next
invariant-loop-next l = IsListing l.graph l.from l.marks.items l.found.items l.next

abbrev pub decreases-loop-next : goal.decreases-loop-next
decreases-loop-next l = free l.marks.items + (length l.found.items - l.next)
