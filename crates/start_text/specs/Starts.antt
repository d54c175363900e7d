-- What a start text and its class files give: the classes of the first change, or the first fault.
use Rattle.std.specs.Prelude.{◌≡◌, ◌⊎◌, ℕ, nat_le, List, [], length, if◌then◌else◌, Option, Some, None, option_map, slice_get}
use Rattle.std.specs.List.{filter_map, AllZip}
use Rattle.std.specs.Str.{is_utf8}
use Rattle.outside.specs.Held.{held_under, longest_load}
use Rattle.outside.specs.declared.shelf.HeldFile.{HeldFile}
use Rattle.class_shape.specs.Shapes.{IsClassFile}
use Rattle.class_shape.specs.Violations.{first_violation}
use Rattle.class_shape.specs.declared.shapes.ClassShape.{ClassShape}
use Rattle.class_summary.specs.Summaries.{summary_of}
use Rattle.known_classes.specs.declared.summary.ClassSummary.{ClassSummary}
use Rattle.std.specs.Option.{option_or}
use Rattle.decl_index.specs.Refusals.{Refuses}
use Rattle.decl_index.specs.declared.change.Change.{Change}
use Rattle.decl_index.specs.declared.change.Change.TheVariants.{Publish}
use Rattle.decl_index.specs.declared.change.ChangeFault.{ChangeFault}
use Rattle.start_text.specs.Lines.{paths_of}
use Rattle.start_text.specs.declared.fault.StartFault.{StartFault}
use Rattle.start_text.specs.declared.fault.StartFault.TheVariants.{NoText, LongText, NotUtf8, NoFile, LongFile, NotClass, Refused}

-- What is wrong with the text as a whole: it isn't there, is too long, or isn't UTF-8.
abbrev pub text_fault : Option (List ℕ) → Option StartFault
text_fault None = Some NoText
text_fault (Some text) = if nat_le (length text) longest_load then (if is_utf8 text then None else Some NotUtf8) else Some LongText

-- What is wrong with the file of a line: it isn't there, is too long, or is no class file (JVMS chapter 4).
abbrev pub file_fault : ℕ → Option (List ℕ) → Option StartFault
file_fault line None = Some (NoFile line)
file_fault line (Some bytes) = if nat_le (length bytes) longest_load then option_map (λ why. NotClass line why) (first_violation bytes) else Some (LongFile line)

-- The first of all that is wrong with the files of these paths.
abbrev pub first_file_fault : List HeldFile → List (ℕ × List ℕ) → Option StartFault
first_file_fault files paths = slice_get (filter_map (λ path. file_fault path.0 (held_under files path.1)) paths) 0

-- What is wrong with the text held under a name, and then with the files of its paths.
abbrev pub first_fault : List HeldFile → List ℕ → Option StartFault
first_fault files name = option_or (text_fault (held_under files name)) (first_file_fault files (paths_of (held_under files name)))

-- The bytes held are a class file, and the class is its summary.
pub record IsClassOf (held : Option (List ℕ)) (class : ClassSummary) : Type 0 where
  pub bytes : List ℕ
  pub is_held : held ≡ Some bytes
  pub shape : ClassShape
  pub is_file : IsClassFile bytes shape
  pub kept : class ≡ summary_of shape

-- The classes are those of the files of these paths, in their order.
abbrev pub AreClassesOf : List HeldFile → List (ℕ × List ℕ) → List ClassSummary → Type 0
AreClassesOf files paths classes = AllZip (λ path class. IsClassOf (held_under files path.1) class) paths classes

-- Nothing is wrong with the text held under a name and with its files, and these are their classes.
pub record IsStart (files : List HeldFile) (name : List ℕ) (classes : List ClassSummary) : Type 0 where
  pub sound : first_fault files name ≡ None
  pub classes_of : AreClassesOf files (paths_of (held_under files name)) classes

-- The change that puts classes in, in their order: of two of one name the later one counts.
abbrev pub publication : List ClassSummary → Change
publication classes = Publish classes [] []

-- Nothing is wrong with the text and its files, but the change that they make is refused as the first one.
pub record IsRefused (files : List HeldFile) (name : List ℕ) (fault : StartFault) : Type 0 where
  pub classes : List ClassSummary
  pub start : IsStart files name classes
  pub why : ChangeFault
  pub refuses : Refuses [] (publication classes) why
  pub is : fault ≡ Refused why

-- What is wrong with a start: the first fault of the text and its files, else the refusal of the change.
abbrev pub IsFaultOf : List HeldFile → List ℕ → StartFault → Type 0
IsFaultOf files name fault = (first_fault files name ≡ Some fault) ⊎ IsRefused files name fault
