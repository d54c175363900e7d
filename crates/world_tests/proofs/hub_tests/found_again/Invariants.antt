use Rattle.std.proofs.Common.{[]}
use Rattle.world_tests.proofs.hub_tests.found_again.Given as goal

-- The log that was just opened, and the journal of no change.
abbrev pub ghosts-found_by_client : goal.ghosts-found_by_client
ghosts-found_by_client g a = record { book = a.opened.seen.book; first = [] }
