-- A change that was accepted.
use Rattle.std.specs.Prelude.{◌≡◌, ◌+◌, ℕ, List, [], ◌∷◌, ◌++◌, length}
use mathlib.Core.List.{IsPrefix}
use Rattle.decl_index.specs.declared.change.Change.{Change}
use Rattle.version_board.specs.Publications.{MayFollow}

-- The change has this number in what is known, and isn't refused after the changes before it.
pub record IsAccepted (known : List Change) (change : Change) (number : ℕ) : Type 0 where
  pub before : List Change
  pub counted : number ≡ length before + 1
  pub stands : IsPrefix (before ++ change ∷ []) known
  pub lawful : MayFollow before change
