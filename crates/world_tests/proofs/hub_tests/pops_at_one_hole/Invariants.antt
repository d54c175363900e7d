use Rattle.std.proofs.Common.{[]}
use Rattle.world_tests.proofs.hub_tests.pops_at_one_hole.Given as goal

-- The log that was just opened, and the journal of no change.
abbrev pub ghosts-pops_of_clients : goal.ghosts-pops_of_clients
ghosts-pops_of_clients g a = record { book = a.opened.seen.book; first = [] }
