use Rattle.std.proofs.Common.{[]}
use Rattle.memory_tests.proofs.session_tests.answers.Given as goal

-- The log that was just opened, and the journal of no change.
abbrev pub ghosts-board_answers : goal.ghosts-board_answers
ghosts-board_answers g a = record { book = a.opened.seen.book; first = [] }
