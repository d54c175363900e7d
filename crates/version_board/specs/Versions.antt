-- Which changes a snapshot stands for.
use Rattle.std.specs.Prelude.{◌≡◌, List, [], ◌∷◌, ◌++◌, length}
use Rattle.decl_index.specs.declared.change.Change.{Change}
use Rattle.decl_index.specs.declared.change.ChangeFault.{ChangeFault}
use Rattle.decl_index.specs.History.{IsState}
use Rattle.decl_index.specs.Refusals.{Refuses}
use Rattle.version_board.specs.declared.snapshot.Snapshot.{Snapshot}
use Rattle.version_board.specs.Withdrawals.{withdrawals_of}

-- The snapshot is the version after these changes.
pub record IsVersion (history : List Change) (s : Snapshot) : Type 0 where
  pub number : s.number ≡ length history
  pub withdrawals : s.journal.withdrawals ≡ withdrawals_of history
  pub state : IsState history s.index

-- None of the changes is refused after those before it.
unfoldable pub AreAllowed : List Change → List Change → Type 0
AreAllowed before [] = Unit {0}
AreAllowed before (change ∷ history) = ((fault : ChangeFault) → Refuses before change fault → ⊥) × AreAllowed (before ++ change ∷ []) history
