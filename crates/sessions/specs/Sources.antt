-- Source files of a publication, one by one.
use Rattle.std.specs.Prelude.{◌≡◌, ⊤, ℕ, List, length, map, Option, Some, None, Result, Ok, Err}
use Rattle.std.specs.List.{AllZip}
use Rattle.outside.specs.declared.shelf.HeldFile.{HeldFile}
use Rattle.answers.specs.Asks.{Loaded, classes, missing, too_long, no_class_file, no_text, unreadable}
use Rattle.sessions.specs.declared.loading.Files.TheVariants as variant
use Rattle.sessions.specs.declared.sources.Unread.{Unread}
use Rattle.sessions.specs.declared.sources.Unread.TheVariants.{Told, OutOfMemory}
use Rattle.sessions.specs.Loads.{MayHold, source_fault, first_unread, SourcesFail, loads_of}

-- A source file of this number that holds this gave no text, for this reason.
abbrev pub SourceFails : ℕ → Option (List ℕ) → Loaded → Type 0
SourceFails index content (classes all) = ⊥
SourceFails index content (missing i) = source_fault index content ≡ Some (missing i)
SourceFails index content (too_long i) = source_fault index content ≡ Some (too_long i)
SourceFails index content (no_class_file i class_fault place) = ⊥
SourceFails index content (no_text i) = source_fault index content ≡ Some (no_text i)
SourceFails index content (unreadable i) = i ≡ index

abbrev pub FailsAs : ℕ → Option (List ℕ) → Unread → Type 0
FailsAs index content (Told files) = SourceFails index content (loads_of files)
FailsAs index content OutOfMemory = Unit {0}

-- Source files of these names hold these texts.
pub record AreTexts (holds : Option (List HeldFile)) (n : ℕ) (names texts : List (List ℕ)) : Type 0 where
  pub held : AllZip (MayHold holds) names (map Some texts)
  pub sound : first_unread n (map Some texts) ≡ None

-- Source files of these names, the first of which has the number n, gave no texts.
pub record GaveNone (holds : Option (List HeldFile)) (n : ℕ) (names : List (List ℕ)) (loads : Loaded) : Type 0 where
  pub contents : List (Option (List ℕ))
  pub held : AllZip (MayHold holds) names contents
  pub fails : SourcesFail n contents loads

abbrev pub AreUnread : Option (List HeldFile) → ℕ → List (List ℕ) → Unread → Type 0
AreUnread holds n names (Told files) = GaveNone holds n names (loads_of files)
AreUnread holds n names OutOfMemory = Unit {0}

-- A source file couldn't be read.
abbrev pub HasFailed : {X : Type 0} → Result X Unread → Type 0
HasFailed (Ok x) = ⊥
HasFailed (Err (Told (variant.Classes puts))) = ⊥
HasFailed (Err (Told (variant.Missing index))) = ⊥
HasFailed (Err (Told (variant.TooLong index))) = ⊥
HasFailed (Err (Told (variant.NoClass index class_fault place))) = ⊥
HasFailed (Err (Told (variant.NoText index))) = ⊥
HasFailed (Err (Told (variant.Unreadable index))) = ⊤
HasFailed (Err OutOfMemory) = ⊥
