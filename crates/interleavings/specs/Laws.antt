-- What is known of several clients of one history.
use Rattle.std.specs.Prelude.{◌≡◌, ℕ, List, [], Some}
use Rattle.std.specs.List.{AllByRecursion}
use Rattle.decl_index.specs.declared.change.Change.{Change}
use Rattle.decl_index.specs.History.{first_withdrawal}
use Rattle.version_board.specs.Versions.{AreAllowed}
use Rattle.interleavings.specs.Clients.{Clients, Step, begun, steps_from, AllMayCome, told_to, IsServed, Bars}

-- Whatever several clients ask, and whatever is published, in any order: each of them is served so.
abbrev pub EveryInterleaving : Type 0
EveryInterleaving = (first : List Change) (steps : List Step) → AllMayCome (begun first) steps → (i : ℕ) → IsServed first steps i

-- None of the changes of the history is refused, where none of the first is.
abbrev pub EveryHistory : Type 0
EveryHistory = (first : List Change) (steps : List Step) → AreAllowed [] first → AllMayCome (begun first) steps → AreAllowed [] (steps_from (begun first) steps).history

-- From the withdrawal of a version on no client gets a page of it, and each refusal names that withdrawal.
abbrev pub EveryWithdrawal : Type 0
EveryWithdrawal = (w : Clients) (steps : List Step) (v n : ℕ) → AreAllowed [] w.history → AllMayCome w steps → first_withdrawal w.history v ≡ Some n → (i : ℕ) → AllByRecursion (Bars v n) (told_to i w steps)
