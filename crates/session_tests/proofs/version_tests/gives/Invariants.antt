use Rattle.std.proofs.Common.{[], ◌∷◌}
use Rattle.session_tests.proofs.version_tests.gives.Given as goal

-- The log that was just opened, and the journal of the change.
abbrev pub ghosts-serve_after : goal.ghosts-serve_after
ghosts-serve_after g a = record { book = a.opened.seen.book; first = a.change.now ∷ [] }
