-- What a source lost to a reader that failed.
use Rattle.std.specs.Prelude.{ℕ, ◌≤◌, List, length, Option}
use Rattle.std.specs.Io.KnownBytes.{Consumes}

-- the first bytes were taken, at most so many, and nothing else
pub record Took (limit : ℕ) (before now : Option (List ℕ)) : Type 0 where
  pub bytes : List ℕ
  pub within : length bytes ≤ limit
  pub consumed : Consumes before now bytes
