use Rattle.std.proofs.Common.{[]}
use Rattle.world_tests.proofs.board_tests.a_pass_reads_what_another_learnt.Given as goal

-- The log that was just opened, and the journal of no change.
abbrev pub ghosts-publish_and_learn : goal.ghosts-publish_and_learn
ghosts-publish_and_learn g a = record { book = a.opened.seen.book; first = [] }
