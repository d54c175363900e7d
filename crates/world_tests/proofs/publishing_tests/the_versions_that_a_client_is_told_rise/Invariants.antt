use Rattle.std.proofs.Common.{[]}
use Rattle.world_tests.proofs.publishing_tests.the_versions_that_a_client_is_told_rise.Given as goal

-- The log that was just opened, and the journal of no change.
abbrev pub ghosts-publish_at_once : goal.ghosts-publish_at_once
ghosts-publish_at_once g a = record { book = a.opened.seen.book; first = [] }
