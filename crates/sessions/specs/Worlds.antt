-- A world as a session sees it.
use Rattle.std.specs.Prelude.{◌≡◌, ◌⊎◌, ℕ, List, [], ◌∷◌, ◌++◌, length, Option, Some, None}
use Rattle.outside.specs.declared.shelf.HeldFile.{HeldFile}
use Rattle.decl_index.specs.declared.change.Change.{Change}
use Rattle.answers.specs.Histories.{IsPrefix}

-- The longest history that the client has seen; the lengths of its prefixes that were read, in order; the whole history, where
-- nobody else changes it; the files that can be loaded, where they are told; and how often the world has failed.
pub record WorldState : Type 0 where
  pub known : List Change
  pub reads : List ℕ
  pub whole : Option (List Change)
  pub holds : Option (List HeldFile)
  pub faults : ℕ

-- The history is the whole one, where that is told.
abbrev pub IsWholeOf : Option (List Change) → List Change → Type 0
IsWholeOf None history = Unit {0}
IsWholeOf (Some whole) history = history ≡ whole

-- The newest version was read: its history has all that was seen as a prefix, and is one entry more of the reads.
pub record IsRead (old new : WorldState) : Type 0 where
  pub later : IsPrefix old.known new.known
  pub entry : new.reads ≡ old.reads ++ length new.known ∷ []
  pub newest : IsWholeOf new.whole new.known
  pub whole : new.whole ≡ old.whole
  pub holds : new.holds ≡ old.holds
  pub faults : new.faults ≡ old.faults

-- A read for which memory was wanting, or after which it was: it is at most one entry more of the reads.
pub record MayRead (old new : WorldState) : Type 0 where
  pub later : IsPrefix old.known new.known
  pub entry : (new.reads ≡ old.reads) ⊎ (new.reads ≡ old.reads ++ length new.known ∷ [])
  pub whole : new.whole ≡ old.whole
  pub holds : new.holds ≡ old.holds
  pub faults : new.faults ≡ old.faults
