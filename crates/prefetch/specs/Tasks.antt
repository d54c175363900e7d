-- A task by its sender and its number.
use Rattle.std.specs.Prelude.{ℕ, zero, suc, ◌+◌, ◌==◌, ◌&&◌, cond, List, [], ◌∷◌, ◌++◌}
use Rattle.prefetch.specs.declared.task.Task.{Task}

module _ {V : Type 0} where
  -- The sender of a task, and its number among those of that sender.
  abbrev pub key : Task V → ℕ × ℕ
  key t = (t.sender, t.number)

-- How often a task stands in the list.
abbrev pub times : ℕ × ℕ → List (ℕ × ℕ) → ℕ
times p [] = 0
times p (x ∷ xs) = cond ((x.0 == p.0) && (x.1 == p.1)) 1 0 + times p xs

-- The first n tasks of the sender k.
abbrev pub numbered : ℕ → ℕ → List (ℕ × ℕ)
numbered k zero = []
numbered k (suc n) = numbered k n ++ (k, n) ∷ []
