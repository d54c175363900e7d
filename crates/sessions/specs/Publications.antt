-- What a world does with a change, and what loading files leaves of it.
use Rattle.std.specs.Prelude.{◌≡◌, ◌⊎◌, ◌≤◌, ◌+◌, ℕ, List, [], ◌∷◌, ◌++◌, length, Option, Some, None}
use Rattle.decl_index.specs.declared.change.Change.{Change}
use Rattle.decl_index.specs.declared.change.ChangeFault.{ChangeFault}
use Rattle.decl_index.specs.declared.change.ChangeFault.TheVariants.{OutOfMemory}
use Rattle.decl_index.specs.Refusals.{Refuses}
use Rattle.outside.specs.Causes.{Rose}
use Rattle.answers.specs.Histories.{IsPrefix}
use Rattle.sessions.specs.Worlds.{WorldState, IsWholeOf}

-- Where the whole history is told, what was made was made at it, and it and what is known are then both together.
abbrev pub IsGrown : Option (List Change) → List Change → List Change → Option (List Change) → List Change → Type 0
IsGrown None at made new known = new ≡ None
IsGrown (Some whole) at made new known = (at ≡ whole) × (new ≡ Some (at ++ made)) × (known ≡ at ++ made)

-- A change was made at a history: what is known then begins with both. This is no read.
pub record Adds (at made : List Change) (old new : WorldState) : Type 0 where
  pub stands : IsPrefix (at ++ made) new.known
  pub later : IsPrefix old.known new.known
  pub reads : new.reads ≡ old.reads
  pub grown : IsGrown old.whole at made new.whole new.known
  pub holds : new.holds ≡ old.holds
  pub faults : new.faults ≡ old.faults

-- Nothing was made and nothing read, but more may be known.
pub record Learns (old new : WorldState) : Type 0 where
  pub later : IsPrefix old.known new.known
  pub reads : new.reads ≡ old.reads
  pub whole : new.whole ≡ old.whole
  pub holds : new.holds ≡ old.holds
  pub faults : new.faults ≡ old.faults

-- A change was accepted under a number: it isn't refused after the changes before it.
pub record Accepts (change : Change) (number : ℕ) (old new : WorldState) : Type 0 where
  pub at : List Change
  pub counted : number ≡ length at + 1
  pub lawful : (fault : ChangeFault) → Refuses at change fault → ⊥
  pub adds : Adds at (change ∷ []) old new

-- A change was refused after all that is then known, the whole history where that is told; or there was no memory.
pub record Declines (change : Change) (fault : ChangeFault) (old new : WorldState) : Type 0 where
  pub cause : (fault ≡ OutOfMemory) ⊎ (Refuses new.known change fault × IsWholeOf new.whole new.known)
  pub learns : Learns old new

-- Files were loaded: of the world its count of faults alone may have risen, and it did where a load failed.
pub record LeavesFiles (is_failed : Type 0) (old new : WorldState) : Type 0 where
  pub same : new ≡ record old { faults = new.faults }
  pub later : old.faults ≤ new.faults
  pub cause : is_failed → Rose old.faults new.faults
