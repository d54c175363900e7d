use Rattle.std.proofs.Common.{[]}
use Rattle.memory_tests.proofs.board_tests.a_change_is_made_or_leaves_the_version.Given as goal

-- The log that was just opened, and the journal of no change.
abbrev pub ghosts-are_made : goal.ghosts-are_made
ghosts-are_made g a = record { book = a.opened.seen.book; first = [] }
