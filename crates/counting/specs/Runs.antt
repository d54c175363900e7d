-- What a run of `count` writes, and what it answers.
use Rattle.std.specs.Prelude.{◌≡◌, ◌⊎◌, ℕ, List, Option, Some, None}
use Rattle.std.specs.Io.KnownBytes.{Appends, Keeps}
use Rattle.outside.specs.Causes.{Rose}
use Rattle.outside.specs.Gathered.{WrotePrefix}
use Rattle.outside.specs.declared.shelf.HeldFile.{HeldFile}
use Rattle.start_text.specs.declared.fault.StartFault.TheVariants.{Failed}
use Rattle.usage_counts.specs.Counts.{Numbers, KeysRise}
use Rattle.counting.specs.Counted.{IsCountOf, IsFaultOf}
use Rattle.counting.specs.Faults.{fault_line, number_of}
use Rattle.counting.specs.Lines.{lines_text}
use Rattle.counting.specs.declared.fault.CountFault.{CountFault}
use Rattle.counting.specs.declared.fault.CountFault.TheVariants.{Start}
use Rattle.counting.specs.declared.counting.Counting.{Counting}
use Rattle.counting.specs.declared.counting.Counting.TheVariants.{Whole, NotStarted, ShelfFault, WriteFault, OutOfMemory}

-- The numbers of uses by keys in rising byte order. Where the shelf tells its files they are those of the class files that the text
-- held under the name names, and nothing is wrong with it and them.
pub record IsTold (held : Option (List HeldFile)) (name : List ℕ) (numbers : Numbers) : Type 0 where
  pub rise : KeysRise numbers
  pub counted : (files : List HeldFile) → held ≡ Some files → IsCountOf files name numbers
  pub sound : (files : List HeldFile) (fault : CountFault) → held ≡ Some files → IsFaultOf files name fault → ⊥

-- The lines of the counts were written, and nothing else.
pub record HasCounted (held : Option (List HeldFile)) (name : List ℕ) (written written' : Option (List ℕ)) : Type 0 where
  pub numbers : Numbers
  pub told : IsTold held name numbers
  pub wrote : Appends written written' (lines_text numbers)

-- A prefix of the lines of the counts was written, and nothing else.
pub record HasBegun (held : Option (List HeldFile)) (name : List ℕ) (written written' : Option (List ℕ)) : Type 0 where
  pub numbers : Numbers
  pub told : IsTold held name numbers
  pub wrote : WrotePrefix written written' (lines_text numbers)

-- This is wrong with the text, its files or their code, nothing else is, and there are no counts.
pub record IsWrong (held : Option (List HeldFile)) (name : List ℕ) (fault : CountFault) : Type 0 where
  pub wrong : (files : List HeldFile) → held ≡ Some files → IsFaultOf files name fault
  pub alone : (files : List HeldFile) (other : CountFault) → held ≡ Some files → IsFaultOf files name other → fault ≡ other
  pub uncounted : (files : List HeldFile) (numbers : Numbers) → held ≡ Some files → IsCountOf files name numbers → ⊥

-- The text is wrong, by the fault of this line and number.
pub record HasNoCount (held : Option (List HeldFile)) (name : List ℕ) (place number : ℕ) : Type 0 where
  pub fault : CountFault
  pub is : IsWrong held name fault
  pub line : place ≡ fault_line fault
  pub cause : number_of fault ≡ Some number

-- How a run of `count` ended, by the files held, what was written, and how often shelf and sink had failed, before and after.
abbrev pub CountsBy : Counting → Option (List HeldFile) → List ℕ → Option (List ℕ) → Option (List ℕ) → ℕ → ℕ → ℕ → ℕ → Type 0
CountsBy Whole held name written written' h h' k k' = HasCounted held name written written'
CountsBy (NotStarted line cause) held name written written' h h' k k' = HasNoCount held name line cause
CountsBy ShelfFault held name written written' h h' k k' = Rose h h'
CountsBy WriteFault held name written written' h h' k k' = Rose k k' × HasBegun held name written written'
CountsBy OutOfMemory held name written written' h h' k k' = Keeps written written' ⊎ HasBegun held name written written'

-- Nothing was written.
abbrev pub IsSilent : Counting → Type 0
IsSilent Whole = ⊥
IsSilent (NotStarted line cause) = Unit {0}
IsSilent ShelfFault = Unit {0}
IsSilent WriteFault = ⊥
IsSilent OutOfMemory = ⊥

-- What a fault ends a run by.
abbrev pub Tells : CountFault → Counting → Type 0
Tells fault Whole = ⊥
Tells fault (NotStarted line cause) = (line ≡ fault_line fault) × (number_of fault ≡ Some cause)
Tells fault ShelfFault = fault ≡ Start Failed
Tells fault WriteFault = ⊥
Tells fault OutOfMemory = number_of fault ≡ None
