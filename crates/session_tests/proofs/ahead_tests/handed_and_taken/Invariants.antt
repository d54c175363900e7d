use Rattle.std.proofs.Common.{[]}
use Rattle.session_tests.proofs.ahead_tests.handed_and_taken.Given as goal

-- The log that was just opened, and the journal of no change.
abbrev pub ghosts-handed_from : goal.ghosts-handed_from
ghosts-handed_from g a = record { book = a.opened.seen.book; first = [] }
