-- What a run over a sheet reads and writes, by how it ends.
use Rattle.std.specs.Prelude.{◌≡◌, ◌⊎◌, ℕ, ◌<◌, ◌≤◌, List, length, Option, Some}
use Rattle.std.specs.Io.KnownBytes.{Consumes, IsAtEnd, Appends, Keeps}
use Rattle.outside.specs.Causes.{Rose}
use Rattle.outside.specs.Gathered.{WrotePrefix}
use Rattle.terms.specs.declared.parts.Parts.{Parts}
use Rattle.sheets.specs.Sheets.{IsSheet, sheet_fault}
use Rattle.sheets.specs.Writing.{sheet_text}
use Rattle.sheet_runs.specs.declared.ending.Ending.{Ending}
use Rattle.sheet_runs.specs.declared.ending.Ending.TheVariants.{Whole, NotSheet, ReadFault, WriteFault, OutOfMemory}

-- the source was read to its end, and what was left in it is a sheet of this environment
pub record IsRead (left left' : Option (List ℕ)) (g : Parts) : Type 0 where
  pub bytes : List ℕ
  pub read : Consumes left left' bytes
  pub ended : IsAtEnd left'
  pub sheet : IsSheet bytes g

-- what was read, to its end or beyond the longest sheet, is no sheet for this fault
pub record IsRefused (left left' : Option (List ℕ)) (line cause : ℕ) : Type 0 where
  pub bytes : List ℕ
  pub read : Consumes left left' bytes
  pub ended : length bytes < 16777217 → IsAtEnd left'
  pub fault : sheet_fault bytes ≡ Some (record { line = line; cause = cause })

-- how a run ends that got no environment: the input is no sheet, the source failed, or memory was wanting
abbrev pub EndsUnread : Ending → Option (List ℕ) → Option (List ℕ) → ℕ → ℕ → Type 0
EndsUnread Whole left left' s s' = ⊥
EndsUnread (NotSheet line cause) left left' s s' = IsRefused left left' line cause
EndsUnread ReadFault left left' s s' = Rose s s'
EndsUnread WriteFault left left' s s' = ⊥
EndsUnread OutOfMemory left left' s s' = Unit {0}

-- how a run ended, by what was left, what was written, and how often source and sink had failed, before and after: the input is
-- a sheet, and for its environment all was done or a part; or it isn't, or wasn't read, and nothing was written
abbrev pub EndsOver : (Parts → Type 0) → (Parts → Type 0) → Ending → Option (List ℕ) → Option (List ℕ) → Option (List ℕ) → Option (List ℕ) → ℕ → ℕ → ℕ → ℕ → Type 0
EndsOver All Part Whole left left' written written' s s' k k' = (g : Parts) × IsRead left left' g × All g
EndsOver All Part (NotSheet line cause) left left' written written' s s' k k' = IsRefused left left' line cause × Keeps written written'
EndsOver All Part ReadFault left left' written written' s s' k k' = Rose s s' × Keeps written written'
EndsOver All Part WriteFault left left' written written' s s' k k' = Rose k k' × ((g : Parts) × IsRead left left' g × Part g)
EndsOver All Part OutOfMemory left left' written written' s s' k k' = Keeps written written' ⊎ ((g : Parts) × IsRead left left' g × Part g)

-- the text of an environment's sheet was written and nothing else, and where it isn't too long it is a sheet of that environment
pub record IsUpgraded (g : Parts) (written written' : Option (List ℕ)) : Type 0 where
  pub wrote : Appends written written' (sheet_text g)
  pub again : length (sheet_text g) ≤ 16777216 → IsSheet (sheet_text g) g

-- how a run of `upgrade` ended: the text of the environment's sheet was written, or a prefix of it
abbrev pub UpgradesBy : Ending → Option (List ℕ) → Option (List ℕ) → Option (List ℕ) → Option (List ℕ) → ℕ → ℕ → ℕ → ℕ → Type 0
UpgradesBy ending left left' written written' s s' k k' =
    EndsOver (λ g. IsUpgraded g written written') (λ g. WrotePrefix written written' (sheet_text g)) ending left left' written written' s s' k k'
