-- The keys that the class files of a start text use, and how often; or the first fault.
use Rattle.std.specs.Prelude.{◌≡◌, ◌⊎◌, ℕ, List, [], ◌∷◌, ◌++◌, Option, Some, None, Result, OnOk, IfOk, IfErr, MatchResult}
use Rattle.outside.specs.Held.{held_under}
use Rattle.outside.specs.declared.shelf.HeldFile.{HeldFile}
use Rattle.code_walk.specs.declared.fault.WalkFault.{WalkFault}
use Rattle.usage_counts.specs.Counts.{Key, Numbers, AreAdded}
use Rattle.usage_counts.specs.Files.{AreUses, IsUseFault}
use Rattle.start_text.specs.Lines.{paths_of}
use Rattle.start_text.specs.Taken.{held_for}
use Rattle.start_text.specs.Starts.{text_fault, file_fault}
use Rattle.counting.specs.Faults.{IsOutside}
use Rattle.counting.specs.declared.fault.CountFault.{CountFault}
use Rattle.counting.specs.declared.fault.CountFault.TheVariants.{Start, Code}

-- Lines by their numbers, each with what is held under its path, if there is anything.
abbrev pub Lines : Type 0
Lines = List (ℕ × Option (List ℕ))

-- Nothing is wrong with the file of a line, and its instructions use these keys, in file order.
pub record UsesOfFile (line : ℕ) (held : Option (List ℕ)) (keys : List Key) : Type 0 where
  pub sound : file_fault line held ≡ None
  pub bytes : List ℕ
  pub is_held : held ≡ Some bytes
  pub uses : AreUses bytes keys

-- The keys that the files of these lines use, one file after the other. A file that stands twice is used twice.
abbrev pub UsesOfFiles : Lines → List Key → Type 0
UsesOfFiles [] keys = keys ≡ []
UsesOfFiles (line ∷ more) keys = (first rest : List Key) × (keys ≡ first ++ rest) × UsesOfFile line.0 line.1 first × UsesOfFiles more rest

abbrev pub HasUses : ℕ → Option (List ℕ) → Type 0
HasUses line held = (keys : List Key) × UsesOfFile line held keys

-- The file of a line is a class file whose first fault is this one of its code.
pub record HasCodeFault (line : ℕ) (held : Option (List ℕ)) (why : WalkFault) : Type 0 where
  pub sound : file_fault line held ≡ None
  pub bytes : List ℕ
  pub is_held : held ≡ Some bytes
  pub first : IsUseFault bytes why

-- What is wrong with the file of a line: what is wrong with it as a class file, or else with its code.
abbrev pub IsFileFault : ℕ → Option (List ℕ) → CountFault → Type 0
IsFileFault line held (Start fault) = file_fault line held ≡ Some fault
IsFileFault line held (Code at why) = (at ≡ line) × HasCodeFault line held why

-- The first fault of the files of these lines: those before it have none.
abbrev pub IsFirstFault : Lines → CountFault → Type 0
IsFirstFault [] fault = ⊥
IsFirstFault (line ∷ more) fault = IsFileFault line.0 line.1 fault ⊎ (HasUses line.0 line.1 × IsFirstFault more fault)

-- The numbers of uses before and after the files of these lines were counted, where they were, or what was answered instead: the
-- first fault, or one of the outside.
pub record CountsLines (lines : Lines) (old new : Numbers) (result : Result (Unit {0}) CountFault) : Type 0 where
  pub added : OnOk result ((keys : List Key) × UsesOfFiles lines keys × AreAdded old keys new)
  pub only : (keys : List Key) → UsesOfFiles lines keys → MatchResult result (λ _. AreAdded old keys new) IsOutside
  pub first : IfErr result (λ fault. IsOutside fault ⊎ IsFirstFault lines fault)
  pub refused : (fault : CountFault) → IsFirstFault lines fault → MatchResult result (λ _. ⊥) (λ answered. IsOutside answered ⊎ (answered ≡ fault))

-- Nothing is wrong with the text held under a name, and the class files of its lines use each key so often, at most 4,294,967,295
-- times.
pub record IsCountOf (files : List HeldFile) (name : List ℕ) (numbers : Numbers) : Type 0 where
  pub sound : text_fault (held_under files name) ≡ None
  pub keys : List Key
  pub uses : UsesOfFiles (held_for files (paths_of (held_under files name))) keys
  pub counts : AreAdded [] keys numbers

abbrev pub IsTextFault : Option (List ℕ) → CountFault → Type 0
IsTextFault held (Start fault) = text_fault held ≡ Some fault
IsTextFault held (Code line why) = ⊥

-- What is wrong with the text held under a name, and then first with the files of its lines.
abbrev pub IsFaultOf : List HeldFile → List ℕ → CountFault → Type 0
IsFaultOf files name fault = IsTextFault (held_under files name) fault
    ⊎ ((text_fault (held_under files name) ≡ None) × IsFirstFault (held_for files (paths_of (held_under files name))) fault)

-- What was answered for a text: how often its files use each key, or the first fault, or one of the outside.
pub record CountsText (files : List HeldFile) (name : List ℕ) (result : Result Numbers CountFault) : Type 0 where
  pub counted : IfOk result (λ numbers. IsCountOf files name numbers)
  pub only : (numbers : Numbers) → IsCountOf files name numbers → IfErr result IsOutside
  pub first : IfErr result (λ fault. IsOutside fault ⊎ IsFaultOf files name fault)
  pub refused : (fault : CountFault) → IsFaultOf files name fault → MatchResult result (λ _. ⊥) (λ answered. IsOutside answered ⊎ (answered ≡ fault))
