-- Where a pool can't be read: good entries stand up to there, and no entry stands there.
use Rattle.std.specs.Prelude.{◌≡◌, ℕ, suc, ◌+◌, ◌-◌, ◌<◌, ◌≤◌, Bool, true, false, List, ◌++◌, Err}
use Rattle.std.specs.List.{AllByRecursion}
use Rattle.class_pool.specs.declared.fault.ClassFault.{ClassFault}
use Rattle.class_pool.specs.Spelling.{Entry, takes_two, width, entry, entries, IsEntry, places}
use Rattle.class_pool.specs.Reading.{entry_at}

-- An entry that fits before so many places are left.
abbrev pub Room : ℕ → Entry → Type 0
Room left e = IsEntry e × (width (takes_two e) ≤ suc left)

-- The place that belongs to the entry before, where there is one.
abbrev pub gap : Bool → ℕ
gap true = 1
gap false = 0

-- Of `left` places, good entries fill some from the front; a further one is due, the bytes after them begin with
-- no entry, and the fault is that of this one entry.
pub record Stops (total : ℕ) (skip : Bool) (left : ℕ) (bytes : List ℕ) (fault : ClassFault) : Type 0 where
  pub good : List Entry
  pub rest : List ℕ
  pub parts : bytes ≡ entries good ++ rest
  pub each : AllByRecursion IsEntry good
  pub due : gap skip + places good < left
  pub none : (e : Entry) (more : List ℕ) → Room (left - suc (gap skip + places good)) e → rest ≡ entry e ++ more → ⊥
  pub fault_is : entry_at total (left - suc (gap skip + places good)) rest ≡ Err fault
