use Rattle.std.proofs.Common.{[]}
use Rattle.session_tests.proofs.client_tests.serve.Given as goal

-- The log that was just opened, and the journal of no change.
abbrev pub ghosts-serve_from : goal.ghosts-serve_from
ghosts-serve_from g a = record { book = a.opened.seen.book; first = [] }
