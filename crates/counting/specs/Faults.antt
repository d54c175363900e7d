-- What can be wrong with a start text whose class files are counted, and how faults are told by numbers.
use Rattle.std.specs.Prelude.{◌≡◌, ℕ, ◌≤◌, List, Option, Some, Result, IsErrOf}
use Rattle.outside.specs.Causes.{Rose}
use Rattle.outside.specs.declared.shelf.HeldFile.{HeldFile}
use Rattle.start_text.specs.declared.fault.StartFault.TheVariants.{Failed, OutOfMemory}
use Rattle.start_text.specs.Faults as start
use Rattle.code_walk.specs.declared.fault.WalkFault.{WalkFault}
use Rattle.code_walk.specs.declared.fault.WalkCause.{WalkCause}
use Rattle.code_walk.specs.declared.fault.WalkCause.TheVariants as walk
use Rattle.counting.specs.declared.fault.CountFault.{CountFault}
use Rattle.counting.specs.declared.fault.CountFault.TheVariants.{Start, Code}

-- The shelf failed or memory was wanting: nothing is known of the text.
abbrev pub IsOutside : CountFault → Type 0
IsOutside (Start fault) = start.IsOutside fault
IsOutside (Code line why) = ⊥

-- What a call leaves of a shelf: it holds what it held, and the call answers its failure only where its count rose.
pub record LeavesShelf {T : Type 0} (held held' : Option (List HeldFile)) (count count' : ℕ) (result : Result T CountFault) : Type 0 where
  pub unchanged : held' ≡ held
  pub later : count ≤ count'
  pub cause : IsErrOf result (Start Failed) → Rose count count'

-- The line at which a fault is; 0 for the text as a whole, and for what is no fault of the text.
abbrev pub fault_line : CountFault → ℕ
fault_line (Start fault) = start.fault_line fault
fault_line (Code line why) = line

-- The number of a fault; a failure of the shelf and want of memory have none.
abbrev pub number_of : CountFault → Option ℕ
number_of (Start fault) = start.number_of fault
number_of (Code line why) = Some 20

-- What is wrong with the file of a line, by the fault of its code; want of memory says nothing of it.
abbrev pub of_walk : ℕ → WalkFault → WalkCause → CountFault
of_walk line fault walk.OutOfMemory = Start OutOfMemory
of_walk line fault walk.Attribute = Code line fault
of_walk line fault walk.Opcode = Code line fault
of_walk line fault walk.Cut = Code line fault
of_walk line fault walk.Switch = Code line fault
of_walk line fault walk.Place = Code line fault
