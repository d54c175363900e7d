-- The text of a document after changes (LSP 3.17, "TextDocumentContentChangeEvent"). A text is its bytes.
use Rattle.std.specs.Prelude.{◌≡◌, ℕ, List, [], ◌∷◌, ◌++◌, take, drop, length, if◌then◌else◌, nat_le, nat_lt, Option, Some, None}
use Rattle.std.specs.Str.{chars}
use Rattle.documents.specs.Places.{offset_of}
use Rattle.documents.specs.declared.change.EditFault.{EditFault}
use Rattle.documents.specs.declared.change.EditFault.TheVariants.{Range, TooLong, OutOfMemory}
use Rattle.documents.specs.declared.change.TextChange.{TextChange}

-- What changes make of a text: a new text, or why they are refused.
pub data Edit : Type 0 where
  edited : List ℕ → Edit
  refused : EditFault → Edit

-- A document has at most 16,777,216 bytes.
unfoldable pub within : List ℕ → Edit
within new = if nat_le (length new) 16777216 then edited new else refused (TooLong (length new))

-- The new bytes in place of those between two offsets; none stands for a line that isn't there.
unfoldable pub edit_between : List ℕ → List ℕ → Option ℕ → Option ℕ → Edit
edit_between bytes new None b = refused Range
edit_between bytes new (Some a) None = refused Range
edit_between bytes new (Some a) (Some b) = if nat_lt b a then refused Range else within ((take a bytes ++ new) ++ drop b bytes)

-- The new bytes in place of a range of positions, or of the whole text.
unfoldable pub edit_of : List ℕ → List ℕ → Option ((ℕ × ℕ) × (ℕ × ℕ)) → Edit
edit_of bytes new None = within new
edit_of bytes new (Some r) = edit_between bytes new (offset_of (chars bytes) r.0.0 r.0.1) (offset_of (chars bytes) r.1.0 r.1.1)

-- One change after what came before it.
abbrev pub then_change : Edit → TextChange → Edit
then_change (edited bytes) change = edit_of bytes change.text change.range
then_change (refused fault) change = refused fault

-- The text after these changes in order, or the fault of the first that is refused; the changes after it make no text.
unfoldable pub document_after : Edit → List TextChange → Edit
document_after before [] = before
document_after before (change ∷ changes) = document_after (then_change before change) changes

-- The fault is why the edit is refused; want of memory says nothing of it.
abbrev pub Refuses : Edit → EditFault → Type 0
Refuses e Range = e ≡ refused Range
Refuses e (TooLong n) = e ≡ refused (TooLong n)
Refuses e OutOfMemory = Unit {0}
