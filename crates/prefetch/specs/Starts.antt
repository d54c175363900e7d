-- What contracts see of senders and workers, and which belong together.
use Rattle.std.specs.Prelude.{ℕ, zero, suc, ◌≡◌, ◌≤◌, ◌+◌, ◌-◌, List, [], ◌∷◌, ◌++◌, length, sum_by, All, ⊤}
use Rattle.atomic_table.specs.Seated.{TableId}
use Rattle.crossbeam_queue.specs.Fifo.{Held}
use Rattle.prefetch.specs.declared.known.Known.{Known}

-- A pass of a queue, with the queue: which one, for how many tasks it has room, and what the pass knows.
pub record Reach : Type 0 where
  pub queue : TableId
  pub capacity : ℕ
  pub knows : Known

-- A sender: its queue, for how many tasks that has room, its number, and how many tasks it has handed.
pub record Handing : Type 0 where
  pub queue : TableId
  pub capacity : ℕ
  pub sender : ℕ
  pub handed : ℕ

-- A worker: its queue, how many parts of the start it holds, and the tasks that it has taken.
pub record Taking : Type 0 where
  pub queue : TableId
  pub parts : ℕ
  pub taken : List (ℕ × ℕ)

-- The parts that workers hold.
abbrev pub parts_of : List Taking → ℕ
parts_of workers = sum_by (λ w. w.parts) workers

-- Senders are numbered one after the other, from k on.
abbrev pub IsNumbered : ℕ → List Handing → Type 0
IsNumbered k [] = ⊤
IsNumbered k (s ∷ ss) = (s.sender ≡ k) × IsNumbered (suc k) ss

-- All senders, in their order, and all workers of one start: they share one queue, and hold all parts.
pub record AreAll (senders : List Handing) (workers : List Taking) : Type 0 where
  pub queue : TableId
  pub hand_to : All (λ s. s.queue ≡ queue) senders
  pub take_from : All (λ w. w.queue ≡ queue) workers
  pub order : IsNumbered 0 senders
  pub some : 1 ≤ length workers
  pub parts : length senders + parts_of workers ≡ 72

-- The first n senders of a start, with nothing handed.
abbrev pub new_senders : TableId → ℕ → ℕ → List Handing
new_senders queue capacity zero = []
new_senders queue capacity (suc n) = new_senders queue capacity n ++ record { queue = queue; capacity = capacity; sender = n; handed = 0 } ∷ []

-- So many workers with one part each, and nothing taken.
abbrev pub new_workers : TableId → ℕ → List Taking
new_workers queue zero = []
new_workers queue (suc n) = new_workers queue n ++ record { queue = queue; parts = 1; taken = [] } ∷ []

-- So many workers that share so many parts: the last one has what the others leave.
abbrev pub sharing_workers : TableId → ℕ → ℕ → List Taking
sharing_workers queue parts n = new_workers queue (n - 1) ++ record { queue = queue; parts = parts - (n - 1); taken = [] } ∷ []

-- So many senders and workers of a new queue with so much room: nothing was handed or taken.
pub record IsStart (n m capacity : ℕ) (senders : List Handing) (workers : List Taking) : Type 0 where
  pub senders_count : length senders ≡ n
  pub workers_count : length workers ≡ m
  pub all : AreAll senders workers
  pub handed : All (λ s. (s.capacity ≡ capacity) × (s.handed ≡ 0)) senders
  pub taken : All (λ w. w.taken ≡ []) workers

-- At one moment of the call the queue held so many tasks.
abbrev pub WasAt : ℕ → Type 0
WasAt n = Held {T = ℕ × ℕ} n (λ _. Unit {0})
