-- What is known once all senders and workers of a start are brought together.
use Rattle.std.specs.Prelude.{ℕ, zero, suc, ◌≡◌, Bool, false, nat_lt, cond, List, [], ◌∷◌}
use Rattle.prefetch.specs.Starts.{Handing, Taking}
use Rattle.prefetch.specs.Tasks.{times, numbered}

-- The tasks that a sender has handed.
abbrev pub tasks_of : Handing → List (ℕ × ℕ)
tasks_of s = numbered s.sender s.handed

abbrev pub handed_by : Handing → ℕ
handed_by s = s.handed

abbrev pub taken_by : Taking → List (ℕ × ℕ)
taken_by w = w.taken

-- Whether the task i of the sender k was handed, where the senders have handed so many: i is below that of k.
abbrev pub was_handed : List ℕ → ℕ → ℕ → Bool
was_handed [] k i = false
was_handed (n ∷ ns) zero i = nat_lt i n
was_handed (n ∷ ns) (suc k) i = was_handed ns k i

-- Where the senders have handed so many tasks: each of them stands once in the list, and no other stands there.
abbrev pub IsEachOnce : List ℕ → List (ℕ × ℕ) → Type 0
IsEachOnce handed tasks = (p : ℕ × ℕ) → times p tasks ≡ cond (was_handed handed p.0 p.1) 1 0
