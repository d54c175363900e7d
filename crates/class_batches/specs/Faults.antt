-- Which file of a batch is no class file.
use Rattle.std.specs.Prelude.{◌≡◌, ◌⊎◌, ℕ, List, Option, Some, None, Result, Ok, Err, IfOk, option_map, slice_get}
use Rattle.std.specs.List.{filter_map}
use Rattle.class_shape.specs.Violations.{first_violation}
use Rattle.known_classes.specs.declared.summary.ClassSummary.{ClassSummary}
use Rattle.class_pool.specs.declared.fault.ClassFault.{ClassFault}
use Rattle.class_pool.specs.declared.fault.ClassCause.{ClassCause}
use Rattle.class_pool.specs.declared.fault.ClassCause.TheVariants as class
use Rattle.class_batches.specs.Classes.{IsSummaryOf}
use Rattle.class_batches.specs.declared.fault.BatchFault.{BatchFault}
use Rattle.class_batches.specs.declared.fault.BatchFault.TheVariants.{Broken, OutOfMemory}

-- What is wrong with a file, told by its number, where its bytes are no class file (JVMS chapter 4).
abbrev pub broken_by : ℕ × List ℕ → Option BatchFault
broken_by file = option_map (λ why. Broken file.0 why) (first_violation file.1)

-- The first of all that is wrong with files.
abbrev pub first_broken : List (ℕ × List ℕ) → Option BatchFault
first_broken files = slice_get (filter_map broken_by files) 0

-- An answer where this is what is wrong, if something is: that fault, or want of memory.
abbrev pub Meets : {T : Type 0} → Option BatchFault → Result T BatchFault → Type 0
Meets wrong (Ok answer) = wrong ≡ None
Meets wrong (Err fault) = (fault ≡ OutOfMemory) ⊎ (wrong ≡ Some fault)

-- What one file gives: its class, or what is wrong with it.
abbrev pub Parses : ℕ × List ℕ → Result ClassSummary BatchFault → Type 0
Parses file parsed = Meets (broken_by file) parsed × IfOk parsed (IsSummaryOf file.1)

-- What is wrong with the file of this number, by the fault of its bytes; want of memory says nothing of them.
abbrev pub of_class : ℕ → ClassFault → ClassCause → BatchFault
of_class number fault class.OutOfMemory = OutOfMemory
of_class number fault class.Truncated = Broken number fault
of_class number fault class.Magic = Broken number fault
of_class number fault class.Version = Broken number fault
of_class number fault class.Tag = Broken number fault
of_class number fault class.Place = Broken number fault
of_class number fault class.Extra = Broken number fault
of_class number fault class.Descriptor = Broken number fault
of_class number fault class.Name = Broken number fault
of_class number fault class.Attribute = Broken number fault
