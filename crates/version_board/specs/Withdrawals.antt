-- The withdrawals of a list of changes.
use Rattle.std.specs.Prelude.{ℕ, suc, List, [], ◌∷◌, ◌++◌}
use Rattle.decl_index.specs.declared.change.Change.{Change}
use Rattle.decl_index.specs.declared.change.Change.TheVariants.{Publish, Withdraw, SetWeights}
use Rattle.version_board.specs.declared.journal.Withdrawal.{Withdrawal}

-- A withdrawal under the number of its change; other changes are none.
abbrev pub withdrawal_of : ℕ → Change → List Withdrawal
withdrawal_of number (Publish puts removes counts) = []
withdrawal_of number (Withdraw through) = record { number = number; through = through } ∷ []
withdrawal_of number (SetWeights w) = []

-- The withdrawals among changes that come after so many others.
unfoldable pub withdrawals_after : ℕ → List Change → List Withdrawal
withdrawals_after n [] = []
withdrawals_after n (change ∷ history) = withdrawal_of (suc n) change ++ withdrawals_after (suc n) history

-- The withdrawals of a history; its first change has the number 1.
abbrev pub withdrawals_of : List Change → List Withdrawal
withdrawals_of history = withdrawals_after 0 history
