-- What a publisher's refusal tells.
use Rattle.std.specs.Prelude.{◌≡◌, ◌⊎◌, List}
use Rattle.decl_index.specs.declared.change.Change.{Change}
use Rattle.decl_index.specs.declared.change.ChangeFault.{ChangeFault}
use Rattle.decl_index.specs.declared.change.ChangeFault.TheVariants.{OutOfMemory}
use Rattle.decl_index.specs.Refusals.{Refuses}

-- The change was refused after this journal for this cause, or there was no memory; it is handed back.
pub record IsRefusal (journal : List Change) (change back : Change) (cause : ChangeFault) : Type 0 where
  pub returned : back ≡ change
  pub refused : (cause ≡ OutOfMemory) ⊎ Refuses journal change cause

-- The change isn't refused after this journal.
pub record MayFollow (journal : List Change) (change : Change) : Type 0 where
  pub lawful : (fault : ChangeFault) → Refuses journal change fault → ⊥
