-- Numbered files, each with what is held as it, and what was read of them in batches.
use Rattle.std.specs.Prelude.{◌≡◌, ◌⊎◌, ℕ, List, ◌++◌, map, Option, Some, None, Result, Ok, Err, slice_get}
use Rattle.std.specs.List.{filter_map, AllZip}
use Rattle.outside.specs.Held.{held_under}
use Rattle.outside.specs.declared.shelf.HeldFile.{HeldFile}
use Rattle.known_classes.specs.declared.summary.ClassSummary.{ClassSummary}
use Rattle.start_text.specs.Faults.{IsOutside}
use Rattle.start_text.specs.Starts.{file_fault, IsClassOf}
use Rattle.start_text.specs.declared.fault.StartFault.{StartFault}
use Rattle.start_text.specs.declared.fault.StartFault.TheVariants.{OutOfMemory}

-- What is held for paths with their numbers.
abbrev pub held_for : List HeldFile → List (ℕ × List ℕ) → List (ℕ × Option (List ℕ))
held_for files paths = map (λ path. (path.0, held_under files path.1)) paths

-- Files with their bytes, as what is held.
abbrev pub as_held : List (ℕ × List ℕ) → List (ℕ × Option (List ℕ))
as_held batch = map (λ file. (file.0, Some file.1)) batch

-- The first of all that is wrong with files.
abbrev pub wrong_among : List (ℕ × Option (List ℕ)) → Option StartFault
wrong_among held = slice_get (filter_map (λ file. file_fault file.0 file.1) held) 0

-- The classes are those of the files, in their order.
abbrev pub AreAmong : List (ℕ × Option (List ℕ)) → List ClassSummary → Type 0
AreAmong held classes = AllZip (λ file class. IsClassOf file.1 class) held classes

-- The files were taken: the first of them gave these classes, and the others stand in this batch.
pub record AreTaken (held : List (ℕ × Option (List ℕ))) (taken : List ClassSummary × List (ℕ × List ℕ)) : Type 0 where
  pub done : List (ℕ × Option (List ℕ))
  pub split : held ≡ done ++ as_held taken.1
  pub sound : wrong_among done ≡ None
  pub classes : AreAmong done taken.0

-- The files were taken, or the first of all that is wrong with them is answered, if it isn't a fault of the outside.
abbrev pub Takes : {T : Type 0} → List (ℕ × Option (List ℕ)) → List ClassSummary × List (ℕ × List ℕ) → Result T StartFault → Type 0
Takes held taken (Ok answer) = AreTaken held taken
Takes held taken (Err fault) = IsOutside fault ⊎ (wrong_among held ≡ Some fault)

-- The fault to answer where the file after these gave no bytes: the first of all that is wrong with these, or the file's, or want
-- of memory.
abbrev pub Stops : List (ℕ × Option (List ℕ)) → StartFault → StartFault → Type 0
Stops held fault answered = (answered ≡ OutOfMemory) ⊎ ((wrong_among held ≡ Some answered) ⊎ ((wrong_among held ≡ None) × (answered ≡ fault)))
