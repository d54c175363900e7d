-- What is known of versions and of what withdraws them.
use Rattle.std.specs.Prelude.{◌≡◌, ℕ, List, [], ◌++◌, length, Some, None}
use Rattle.decl_index.specs.declared.change.Change.{Change}
use Rattle.decl_index.specs.History.{first_withdrawal}
use Rattle.version_board.specs.declared.snapshot.Snapshot.{Snapshot}
use Rattle.version_board.specs.Versions.{IsVersion, AreAllowed}

-- Each history has a version.
abbrev pub HasVersion : Type 0
HasVersion = (history : List Change) → (s : Snapshot) × IsVersion history s

-- Two versions of one history are equal.
abbrev pub OneVersion : Type 0
OneVersion = (history : List Change) (s t : Snapshot) → IsVersion history s → IsVersion history t → s ≡ t

-- What is withdrawn stays withdrawn, by the same change.
abbrev pub WithdrawalsStay : Type 0
WithdrawalsStay = (history more : List Change) (version number : ℕ) → first_withdrawal history version ≡ Some number → first_withdrawal (history ++ more) version ≡ Some number

-- The newest version isn't withdrawn, where no change was refused.
abbrev pub NewestStands : Type 0
NewestStands = (history : List Change) → AreAllowed [] history → first_withdrawal history (length history) ≡ None
