-- What the files of a publication give.
use Rattle.std.specs.Prelude.{◌≡◌, ◌⊎◌, ◌<◌, ◌≤◌, ◌+◌, ℕ, nat_le, List, [], length, map, take, Option, Some, None, slice_get, if◌then◌else◌}
use Rattle.std.specs.List.{enumerate_from, filter_map, AllZip}
use Rattle.std.specs.Str.{is_utf8}
use Rattle.outside.specs.Causes.{Rose}
use Rattle.outside.specs.Held.{held_under, longest_load}
use Rattle.outside.specs.declared.shelf.HeldFile.{HeldFile}
use Rattle.known_classes.specs.declared.summary.ClassSummary.{ClassSummary}
use Rattle.class_pool.specs.declared.fault.ClassFault.{ClassFault}
use Rattle.class_pool.specs.Causes.{cause_number}
use Rattle.start_text.specs.Starts.{file_fault, IsClassOf}
use Rattle.start_text.specs.declared.fault.StartFault.{StartFault}
use Rattle.start_text.specs.declared.fault.StartFault.TheVariants.{NoFile, LongFile, NotClass}
use Rattle.source_classes.specs.KnownNames.{ArePuts}
use Rattle.answers.specs.Asks.{Short, Enough, Lacking, Ending, Loaded, classes, missing, too_long, no_class_file, no_text, unreadable}
use Rattle.answers.specs.declared.types.NamedFiles.{NamedFiles}
use Rattle.sessions.specs.declared.loading.Files as code
use Rattle.sessions.specs.declared.loading.Files.TheVariants as variant

-- A file of this name may hold this: what the shelf holds under it, where that is told.
abbrev pub MayHold : Option (List HeldFile) → List ℕ → Option (List ℕ) → Type 0
MayHold None name content = Unit {0}
MayHold (Some files) name content = content ≡ held_under files name

-- The first of all that is wrong with files that hold this, numbered from 0.
abbrev pub first_wrong : List (Option (List ℕ)) → Option StartFault
first_wrong contents = slice_get (filter_map (λ file. file_fault file.0 file.1) (enumerate_from 0 contents)) 0

-- A file is no class file, by the number and the place of the first fault of its bytes.
pub record IsNoClass (contents : List (Option (List ℕ))) (index class_fault place : ℕ) : Type 0 where
  pub why : ClassFault
  pub first : first_wrong contents ≡ Some (NotClass index why)
  pub number : cause_number why.cause ≡ Some class_fault
  pub at : place ≡ why.at

-- What class files that hold this give: the classes of all of them in order, or what is wrong with the first that gives none. Of one that
-- couldn't be read nothing is known, but those before it give classes.
abbrev pub FilesGive : List (Option (List ℕ)) → Loaded → Type 0
FilesGive contents (classes puts) = (first_wrong contents ≡ None) × AllZip IsClassOf contents puts
FilesGive contents (missing index) = first_wrong contents ≡ Some (NoFile index)
FilesGive contents (too_long index) = first_wrong contents ≡ Some (LongFile index)
FilesGive contents (no_class_file index class_fault place) = IsNoClass contents index class_fault place
FilesGive contents (no_text index) = ⊥
FilesGive contents (unreadable index) = (index < length contents) × (first_wrong (take index contents) ≡ None)

-- Class files of these names give this: what the shelf holds under them, where that is told, and else whatever they hold.
pub record Give (holds : Option (List HeldFile)) (names : List (List ℕ)) (loads : Loaded) : Type 0 where
  pub contents : List (Option (List ℕ))
  pub held : AllZip (MayHold holds) names contents
  pub gives : FilesGive contents loads

-- What is wrong with a source file that holds this: it isn't there, is too long, or isn't UTF-8.
abbrev pub source_fault : ℕ → Option (List ℕ) → Option Loaded
source_fault index None = Some (missing index)
source_fault index (Some bytes) = if nat_le (length bytes) longest_load then (if is_utf8 bytes then None else Some (no_text index)) else Some (too_long index)

-- The first of all that is wrong with source files that hold this, the first of which has the number n.
abbrev pub first_unread : ℕ → List (Option (List ℕ)) → Option Loaded
first_unread n contents = slice_get (filter_map (λ file. source_fault file.0 file.1) (enumerate_from n contents)) 0

-- What is told of source files that give no classes: what is wrong with the first of them. Of one that couldn't be read nothing
-- is known, but those before it give texts.
abbrev pub SourcesFail : ℕ → List (Option (List ℕ)) → Loaded → Type 0
SourcesFail n contents (classes all) = ⊥
SourcesFail n contents (missing index) = first_unread n contents ≡ Some (missing index)
SourcesFail n contents (too_long index) = first_unread n contents ≡ Some (too_long index)
SourcesFail n contents (no_class_file index class_fault place) = ⊥
SourcesFail n contents (no_text index) = first_unread n contents ≡ Some (no_text index)
SourcesFail n contents (unreadable index) = (place : ℕ) × (index ≡ n + place) × (place < length contents) × (first_unread n (take place contents) ≡ None)

-- Nothing is wrong with the source files, and behind the classes of the class files theirs are put.
pub record SourcesAdd (n : ℕ) (contents : List (Option (List ℕ))) (known : List (List ℕ)) (puts : List ClassSummary) (loads : Loaded) : Type 0 where
  pub texts : List (List ℕ)
  pub all : List ClassSummary
  pub read : contents ≡ map Some texts
  pub sound : first_unread n contents ≡ None
  pub are : ArePuts puts known texts all
  pub given : loads ≡ classes all

-- Source files of these names, behind n class files that gave these classes, give this.
pub record SourcesGive (holds : Option (List HeldFile)) (n : ℕ) (names known : List (List ℕ)) (puts : List ClassSummary) (loads : Loaded) : Type 0 where
  pub contents : List (Option (List ℕ))
  pub held : AllZip (MayHold holds) names contents
  pub gives : SourcesFail n contents loads ⊎ SourcesAdd n contents known puts loads

-- What was given isn't classes.
abbrev pub IsFault : Loaded → Type 0
IsFault (classes puts) = ⊥
IsFault (missing index) = Unit {0}
IsFault (too_long index) = Unit {0}
IsFault (no_class_file index class_fault place) = Unit {0}
IsFault (no_text index) = Unit {0}
IsFault (unreadable index) = Unit {0}

-- The class files gave classes, and the source files behind them this.
pub record GiveThen (holds : Option (List HeldFile)) (files : NamedFiles) (loads : Loaded) : Type 0 where
  pub puts : List ClassSummary
  pub first : Give holds files.puts (classes puts)
  pub behind : SourcesGive holds (length files.puts) files.sources files.known puts loads

-- The files of a publication give this: its class files come first, and its sources count where these give classes.
abbrev pub GiveAll : Option (List HeldFile) → NamedFiles → Loaded → Type 0
GiveAll holds files loads = (Give holds files.puts loads × IsFault loads) ⊎ GiveThen holds files loads

-- Where memory was wanting nothing is said of them.
abbrev pub GiveIf : Short → Option (List HeldFile) → NamedFiles → Loaded → Type 0
GiveIf Enough holds files loads = GiveAll holds files loads
GiveIf Lacking holds files loads = Unit {0}
GiveIf Ending holds files loads = Unit {0}

-- The files of a publication gave this, by what is held. A load counts as failed only where the count of faults rose, and where no
-- file is named nothing is loaded.
pub record IsLoaded (short : Short) (holds : Option (List HeldFile)) (files : NamedFiles) (loads : Loaded) (before after : ℕ) : Type 0 where
  pub gives : GiveIf short holds files loads
  pub later : before ≤ after
  pub cause : (index : ℕ) → loads ≡ unreadable index → Rose before after
  pub none : files.puts ≡ [] → files.sources ≡ [] → after ≡ before

-- What the code tells of them.
abbrev pub loads_of : code.Files → Loaded
loads_of (variant.Classes puts) = classes puts
loads_of (variant.Missing index) = missing index
loads_of (variant.TooLong index) = too_long index
loads_of (variant.NoClass index class_fault place) = no_class_file index class_fault place
loads_of (variant.NoText index) = no_text index
loads_of (variant.Unreadable index) = unreadable index
