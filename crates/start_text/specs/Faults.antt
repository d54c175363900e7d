-- What can be wrong with a start text and its files, and how faults are told by numbers.
use Rattle.std.specs.Prelude.{◌≡◌, ℕ, ◌≤◌, ◌⊎◌, ⊤, List, Option, Some, None, Result, Ok, Err, IsErrOf}
use Rattle.outside.specs.Causes.{Rose}
use Rattle.outside.specs.declared.shelf.HeldFile.{HeldFile}
use Rattle.outside.specs.declared.shelf.LoadFault.{LoadFault}
use Rattle.outside.specs.declared.shelf.LoadFault.TheVariants as load
use Rattle.decl_index.specs.declared.change.ChangeFault.{ChangeFault}
use Rattle.decl_index.specs.declared.change.ChangeFault.TheVariants as change
use Rattle.class_batches.specs.declared.fault.BatchFault.{BatchFault}
use Rattle.class_batches.specs.declared.fault.BatchFault.TheVariants as batch
use Rattle.class_pool.specs.declared.fault.ClassFault.{ClassFault}
use Rattle.class_pool.specs.declared.fault.ClassCause.{ClassCause}
use Rattle.class_pool.specs.declared.fault.ClassCause.TheVariants as class
use Rattle.start_text.specs.declared.fault.StartFault.{StartFault}
use Rattle.start_text.specs.declared.fault.StartFault.TheVariants.{NoText, LongText, NotUtf8, NoFile, LongFile, NotClass, Refused, Failed, OutOfMemory}

-- The shelf failed or memory was wanting: nothing is known of the text.
abbrev pub IsOutside : StartFault → Type 0
IsOutside Failed = ⊤
IsOutside OutOfMemory = ⊤
IsOutside NoText = ⊥
IsOutside LongText = ⊥
IsOutside NotUtf8 = ⊥
IsOutside (NoFile line) = ⊥
IsOutside (LongFile line) = ⊥
IsOutside (NotClass line why) = ⊥
IsOutside (Refused why) = ⊥

-- An answer where this is what is wrong, if something is: that fault, or one of the outside.
abbrev pub Meets : {T : Type 0} → Option StartFault → Result T StartFault → Type 0
Meets wrong (Ok answer) = wrong ≡ None
Meets wrong (Err fault) = IsOutside fault ⊎ (wrong ≡ Some fault)

-- What a call leaves of a shelf: it holds what it held, and the call answers its failure only where its count rose.
pub record LeavesShelf {T : Type 0} (held held' : Option (List HeldFile)) (count count' : ℕ) (result : Result T StartFault) : Type 0 where
  pub unchanged : held' ≡ held
  pub later : count ≤ count'
  pub cause : IsErrOf result Failed → Rose count count'

-- The line at which a fault is; 0 for the text as a whole, for the change, and for what is no fault of the text.
abbrev pub fault_line : StartFault → ℕ
fault_line (NoFile line) = line
fault_line (LongFile line) = line
fault_line (NotClass line why) = line
fault_line NoText = 0
fault_line LongText = 0
fault_line NotUtf8 = 0
fault_line (Refused why) = 0
fault_line Failed = 0
fault_line OutOfMemory = 0

-- The number of a refusal of a change.
abbrev pub change_number : ChangeFault → Option ℕ
change_number (change.Cyclic name) = Some 14
change_number (change.Full parts) = Some 15
change_number (change.TooHigh through) = Some 16
change_number change.JournalFull = Some 17
change_number (change.NestCycle name) = Some 18
change_number change.OutOfMemory = None

-- The number of a fault; a failure of the shelf and want of memory have none.
abbrev pub number_of : StartFault → Option ℕ
number_of NoText = Some 9
number_of LongText = Some 19
number_of NotUtf8 = Some 19
number_of (NoFile line) = Some 9
number_of (LongFile line) = Some 10
number_of (NotClass line why) = Some 11
number_of (Refused why) = change_number why
number_of Failed = None
number_of OutOfMemory = None

-- A load's fault, and a change's, as a start's.
abbrev pub of_load : LoadFault → StartFault
of_load load.Failed = Failed
of_load load.OutOfMemory = OutOfMemory

abbrev pub of_change : ChangeFault → StartFault
of_change change.OutOfMemory = OutOfMemory
of_change (change.Cyclic name) = Refused (change.Cyclic name)
of_change (change.Full parts) = Refused (change.Full parts)
of_change (change.TooHigh through) = Refused (change.TooHigh through)
of_change change.JournalFull = Refused change.JournalFull
of_change (change.NestCycle name) = Refused (change.NestCycle name)

-- The fault of a batch, whose files have the numbers of their lines.
abbrev pub of_batch : BatchFault → StartFault
of_batch (batch.Broken line why) = NotClass line why
of_batch batch.OutOfMemory = OutOfMemory

-- What is wrong with the file of a line, by the fault of its bytes; want of memory says nothing of them.
abbrev pub of_class : ℕ → ClassFault → ClassCause → StartFault
of_class line fault class.OutOfMemory = OutOfMemory
of_class line fault class.Truncated = NotClass line fault
of_class line fault class.Magic = NotClass line fault
of_class line fault class.Version = NotClass line fault
of_class line fault class.Tag = NotClass line fault
of_class line fault class.Place = NotClass line fault
of_class line fault class.Extra = NotClass line fault
of_class line fault class.Descriptor = NotClass line fault
of_class line fault class.Name = NotClass line fault
of_class line fault class.Attribute = NotClass line fault
