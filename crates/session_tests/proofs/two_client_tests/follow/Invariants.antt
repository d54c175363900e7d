use Rattle.std.proofs.Common.{[], ◌∷◌}
use Rattle.session_tests.proofs.two_client_tests.follow.Given as goal

-- The log that was just opened, and the journal of the change.
abbrev pub ghosts-are_told_after : goal.ghosts-are_told_after
ghosts-are_told_after g a = record { book = a.opened.seen.book; first = a.change.now ∷ [] }
