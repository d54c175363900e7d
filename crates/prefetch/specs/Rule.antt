-- The rule of the queue, and what each step does to what a pass knows. A start has 72 parts, since it has at most 64
-- senders and 8 workers. Each of them holds one part or more, and who holds all parts holds all that is known.
use Rattle.std.specs.Prelude.{ℕ, ◌≡◌, ◌+◌, ◌-◌, List, [], ◌∷◌, ◌++◌}
use mathlib.Core.Option.{some}
use lib.ListN.{get_elem?}
use Rattle.prefetch.specs.declared.known.Known.{Known}
use Rattle.prefetch.specs.Tasks.{times}

-- A number summed over views.
abbrev pub total : (Known → ℕ) → List Known → ℕ
total f [] = 0
total f (v ∷ vs) = f v + total f vs

-- So many parts, and no task.
abbrev pub fresh : ℕ → Known
fresh n = record { parts = n; sent = []; got = [] }

-- All parts.
abbrev pub whole : Known
whole = fresh 72

abbrev pub one_part : Known
one_part = fresh 1

abbrev pub no_part : Known
no_part = fresh 0

-- One part is cut off.
abbrev pub less_one : Known → Known
less_one v = record v { parts = v.parts - 1 }

-- What two know is brought together.
abbrev pub joined : Known → Known → Known
joined v w = record { parts = v.parts + w.parts; sent = v.sent ++ w.sent; got = v.got ++ w.got }

-- One task more was handed.
abbrev pub with_sent : Known → ℕ × ℕ → Known
with_sent v x = record v { sent = v.sent ++ x ∷ [] }

-- One task more was taken.
abbrev pub with_got : Known → ℕ × ℕ → Known
with_got v x = record v { got = v.got ++ x ∷ [] }

-- The rule: each task was handed as often as it was taken or waits, there are 72 parts, and who holds none knows of
-- no task.
pub record Kept (items : List (ℕ × ℕ)) (views : List Known) : Type 0 where
  pub counts : (p : ℕ × ℕ) → total (λ v. times p v.sent) views ≡ total (λ v. times p v.got) views + times p items
  pub parts : total (λ v. v.parts) views ≡ 72
  pub none : (seat : ℕ) (v : Known) → get_elem? views seat ≡ some v → v.parts ≡ 0 → (v.sent ≡ []) × (v.got ≡ [])

-- Who holds all parts knows of each task that it was handed as often as it was taken or waits.
abbrev pub Accounts : Known → List (ℕ × ℕ) → Type 0
Accounts v items = v.parts ≡ 72 → (p : ℕ × ℕ) → times p v.sent ≡ times p v.got + times p items

-- Each task was taken as often as it was handed.
abbrev pub IsSettled : Known → Type 0
IsSettled v = (p : ℕ × ℕ) → times p v.sent ≡ times p v.got
