-- Output that is gathered and handed over in larger pieces.
use Rattle.std.specs.Prelude.{◌≡◌, ℕ, ◌≤◌, List, ◌++◌, take, length, Option}
use Rattle.std.specs.Io.KnownBytes.{Appends}

-- of all bytes some were handed over, and the rest is held, in order
pub record Gathered (start now : Option (List ℕ)) (held all : List ℕ) : Type 0 where
  pub handed : List ℕ
  pub wrote : Appends start now handed
  pub whole : handed ++ held ≡ all

-- a prefix of these bytes was written, and nothing else
pub record WrotePrefix (start now : Option (List ℕ)) (all : List ℕ) : Type 0 where
  pub count : ℕ
  pub within : count ≤ length all
  pub wrote : Appends start now (take count all)
