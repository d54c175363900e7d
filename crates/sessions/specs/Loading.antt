-- Faults of the files of a publication, as the code hands them on.
use Rattle.std.specs.Prelude.{◌≡◌, ⊤, ℕ, Some, Result, Ok, Err}
use Rattle.std.specs.declared.alloc.AllocError.{AllocError}
use Rattle.class_pool.specs.Causes.{cause_number}
use Rattle.start_text.specs.declared.fault.StartFault.{StartFault}
use Rattle.start_text.specs.declared.fault.StartFault.TheVariants.{NoText, LongText, NotUtf8, NoFile, LongFile, NotClass, Refused, Failed, OutOfMemory}
use Rattle.answers.specs.Asks.{Loaded, missing, too_long, no_class_file, unreadable}
use Rattle.sessions.specs.declared.loading.Files as code
use Rattle.sessions.specs.declared.loading.Files.TheVariants as variant

-- The fault is one of a file, or of the outside.
abbrev pub IsOfFile : StartFault → Type 0
IsOfFile (NoFile index) = ⊤
IsOfFile (LongFile index) = ⊤
IsOfFile (NotClass index why) = ⊤
IsOfFile Failed = ⊤
IsOfFile OutOfMemory = ⊤
IsOfFile NoText = ⊥
IsOfFile LongText = ⊥
IsOfFile NotUtf8 = ⊥
IsOfFile (Refused why) = ⊥

-- What is told of the fault of a file: a fault of what it holds has its number, and a load that failed has this one.
abbrev pub Tells : ℕ → StartFault → Loaded → Type 0
Tells failed (NoFile index) loads = loads ≡ missing index
Tells failed (LongFile index) loads = loads ≡ too_long index
Tells failed (NotClass index why) loads = (class_fault : ℕ) × (cause_number why.cause ≡ Some class_fault) × (loads ≡ no_class_file index class_fault why.at)
Tells failed Failed loads = loads ≡ unreadable failed
Tells failed OutOfMemory loads = ⊥
Tells failed NoText loads = ⊥
Tells failed LongText loads = ⊥
Tells failed NotUtf8 loads = ⊥
Tells failed (Refused why) loads = ⊥

-- A file couldn't be read.
abbrev pub IsUnreadable : Result code.Files AllocError → Type 0
IsUnreadable (Ok (variant.Classes puts)) = ⊥
IsUnreadable (Ok (variant.Missing index)) = ⊥
IsUnreadable (Ok (variant.TooLong index)) = ⊥
IsUnreadable (Ok (variant.NoClass index class_fault place)) = ⊥
IsUnreadable (Ok (variant.NoText index)) = ⊥
IsUnreadable (Ok (variant.Unreadable index)) = ⊤
IsUnreadable (Err e) = ⊥
