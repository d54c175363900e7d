use Rattle.std.proofs.Common.{[]}
use Rattle.world_tests.proofs.board_tests.passes_read_what_is_published.Given as goal

-- The log that was just opened, and the journal of no change.
abbrev pub ghosts-publish_and_read : goal.ghosts-publish_and_read
ghosts-publish_and_read g a = record { book = a.opened.seen.book; first = [] }
