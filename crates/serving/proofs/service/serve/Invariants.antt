use Rattle.serving.specs.Services.{history_of}
use Rattle.serving.proofs.service.serve.Given as goal

-- the log that was just opened, and the changes that the version stands for
abbrev pub ghosts-serve_board : goal.ghosts-serve_board
ghosts-serve_board g a = record { book = a.opened.seen.book; first = history_of a.first }
