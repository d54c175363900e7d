-- How a run ends.
use Rattle.std.proofs.Common.{◌≡◌, refl, inl, inr, ⊎_elim, ℕ, ◌⊎◌, List, Option, Some, None, Ok, Err}
use Rattle.std.specs.Io.KnownBytes.{Keeps}
use Rattle.outside.specs.Causes.{Rose}
use Rattle.outside.specs.declared.shelf.HeldFile.{HeldFile}
use Rattle.start_text.specs.declared.fault.StartFault.TheVariants as start_fault
use Rattle.usage_counts.specs.Counts.{Numbers, KeysRise}
use Rattle.counting.specs.Faults.{IsOutside, number_of}
use Rattle.counting.specs.Counted.{IsFaultOf, CountsText}
use Rattle.counting.specs.Runs.{IsTold, IsWrong, CountsBy, Tells}
use Rattle.counting.specs.declared.fault.CountFault.{CountFault}
use Rattle.counting.specs.declared.fault.CountFault.TheVariants.{Start, Code}
use Rattle.counting.specs.declared.counting.Counting.{Counting}
use Rattle.counting.specs.declared.counting.Counting.TheVariants.{Whole, NotStarted, ShelfFault, WriteFault, OutOfMemory}

pub keeps : (a : Option (List ℕ)) → Keeps a a
keeps None = tt
keeps (Some xs) = refl

-- The counts that were told.
pub told : (held : Option (List HeldFile)) (name : List ℕ) (numbers : Numbers) → KeysRise numbers → ((files : List HeldFile) → held ≡ Some files → CountsText files name (Ok numbers)) → IsTold held name numbers
told held name numbers rise text = record {
  rise = rise;
  counted = λ files e. (text files e).counted;
  sound = λ files fault e h. (text files e).refused fault h;
}

-- A fault with a number is none of the outside.
inside : (fault : CountFault) (number : ℕ) → number_of fault ≡ Some number → IsOutside fault → ⊥
inside (Start start_fault.Failed) number e free = cc
inside (Start start_fault.OutOfMemory) number e free = cc
inside (Start start_fault.NoText) number e free = free
inside (Start start_fault.LongText) number e free = free
inside (Start start_fault.NotUtf8) number e free = free
inside (Start (start_fault.NoFile line)) number e free = free
inside (Start (start_fault.LongFile line)) number e free = free
inside (Start (start_fault.NotClass line why)) number e free = free
inside (Start (start_fault.Refused why)) number e free = free
inside (Code line why) number e free = free

within : {A : Type 0} → ¬ A → {B : Type 0} → A ⊎ B → B
within never h = ⊎_elim (λ a. absurd (never a)) (λ b. b) h

pub wrong : (held : Option (List HeldFile)) (name : List ℕ) (fault : CountFault) (number : ℕ) → number_of fault ≡ Some number → ((files : List HeldFile) → held ≡ Some files → CountsText files name (Err fault)) → IsWrong held name fault
wrong held name fault number e text = record {
  wrong = λ files is. within (inside fault number e) (text files is).first;
  alone = λ files other is h. within (inside fault number e) ((text files is).refused other h);
  uncounted = λ files numbers is h. inside fault number e ((text files is).only numbers h);
}

-- What a fault ends a run by, before anything was written.
pub stopped : (way : Counting) (fault : CountFault) (held : Option (List HeldFile)) (name : List ℕ) (w : Option (List ℕ)) (h h' k : ℕ) → Tells fault way → ((files : List HeldFile) → held ≡ Some files → CountsText files name (Err fault)) → (fault ≡ Start start_fault.Failed → Rose h h') → CountsBy way held name w w h h' k k
stopped Whole fault held name w h h' k tells text cause = absurd tells
stopped (NotStarted line number) fault held name w h h' k tells text cause = record {
  fault = fault;
  is = wrong held name fault number tells.1 text;
  line = tells.0;
  cause = tells.1;
}
stopped ShelfFault fault held name w h h' k tells text cause = cause tells
stopped WriteFault fault held name w h h' k tells text cause = absurd tells
stopped OutOfMemory fault held name w h h' k tells text cause = inl (keeps w)

-- Over an end that doesn't fail.
pub complete : (way : Counting) (held : Option (List HeldFile)) (name : List ℕ) (w w' : Option (List ℕ)) (h h' k k' : ℕ) → CountsBy way held name w w' h h' k k' → (files : List HeldFile) → held ≡ Some files → ((fault : CountFault) → IsFaultOf files name fault → ⊥) → ¬ (Rose h h') → ¬ (Rose k k') → (way ≡ Whole) ⊎ (way ≡ OutOfMemory)
complete Whole held name w w' h h' k k' by files is sound shelf sink = inl refl
complete (NotStarted line number) held name w w' h h' k k' by files is sound shelf sink = absurd (sound by.fault (by.is.wrong files is))
complete ShelfFault held name w w' h h' k k' by files is sound shelf sink = absurd (shelf by)
complete WriteFault held name w w' h h' k k' by files is sound shelf sink = absurd (sink by.0)
complete OutOfMemory held name w w' h h' k k' by files is sound shelf sink = inr refl
