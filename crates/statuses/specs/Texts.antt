-- How a status is told.
use Rattle.std.specs.Prelude.{ℕ, List, ◌++◌, codes, decimal}
use Rattle.statuses.specs.declared.status.Status.{Status}

-- The code, the number of the end, the place and the cause, each in decimal behind its name.
abbrev pub status_text : Status → List ℕ
status_text s = codes "status " ++ (decimal s.code ++ (codes " end " ++ (decimal s.end ++ (codes " place " ++ (decimal s.place ++ (codes " cause " ++ decimal s.cause))))))
