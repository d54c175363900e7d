use Rattle.std.proofs.Common.{◌≡◌, take}
use Rattle.edges.specs.Made.{tails_at}
use Rattle.edges.proofs.tails.find_tails.Given as goal

abbrev pub invariant-loop-need : goal.invariant-loop-need
invariant-loop-need l = l.tails.items ≡ tails_at l.patterns l.state (take l.need-index l.initial.needs)
