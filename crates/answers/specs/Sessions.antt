-- A session as contracts see it, and its documents.
use Rattle.std.specs.Prelude.{ℕ, List, [], ◌∷◌, filter, not, bytes_eq, if◌then◌else◌, Option, Some, None}
use Rattle.documents.specs.Edits.{Edit, edited, refused, within, edit_of}
use Rattle.lsp_forms.specs.declared.forms.Initialize.{Initialize}
use Rattle.lsp_forms.specs.declared.forms.ChangeForm.{ChangeForm}
use Rattle.answers.specs.declared.types.Phase.{Phase}
use Rattle.answers.specs.declared.types.Phase.TheVariants.{Fresh}
use Rattle.answers.specs.declared.types.DocumentState.{DocumentState}
use Rattle.answers.specs.declared.types.DocumentState.TheVariants.{Sure, Unsure, NoMemory}
use Rattle.answers.specs.declared.types.OpenDocument.{OpenDocument}
use Rattle.answers.specs.Cursors.{Lists}

-- How far a session has come, its options, the documents that are open, and its lists.
pub record Seen : Type 0 where
  pub phase : Phase
  pub options : Initialize
  pub documents : List OpenDocument
  pub lists : Lists

-- A new session, with the options of an `initialize` that gives none.
abbrev pub start : Seen
start = record { phase = Fresh; options = record { limit = 4000; depth = 1; count = 20 }; documents = []; lists = record { made = 0; cursors = [] } }

-- The state of a document, where it is open.
unfoldable pub document_of : List ℕ → List OpenDocument → Option DocumentState
document_of uri [] = None
document_of uri (d ∷ ds) = if bytes_eq d.uri uri then Some d.state else document_of uri ds

-- The documents with this one in a state.
unfoldable pub with_document : List ℕ → DocumentState → List OpenDocument → List OpenDocument
with_document uri state [] = record { uri = uri; state = state } ∷ []
with_document uri state (d ∷ ds) = if bytes_eq d.uri uri then record { uri = uri; state = state } ∷ ds else d ∷ with_document uri state ds

-- The documents without this one.
abbrev pub without_document : List ℕ → List OpenDocument → List OpenDocument
without_document uri ds = filter (λ d. not (bytes_eq d.uri uri)) ds

-- An edit that is refused leaves the text unsure.
abbrev pub state_of : Edit → DocumentState
state_of (edited text) = Sure text
state_of (refused fault) = Unsure

-- A change without a range is the whole text; one with a range needs a text that is sure.
abbrev pub whole_text_or : DocumentState → List ℕ → Option ((ℕ × ℕ) × (ℕ × ℕ)) → DocumentState
whole_text_or state text None = state_of (within text)
whole_text_or state text (Some range) = state

-- The state after one change.
abbrev pub state_after : DocumentState → ChangeForm → DocumentState
state_after (Sure text) change = state_of (edit_of text change.text change.range)
state_after Unsure change = whole_text_or Unsure change.text change.range
state_after NoMemory change = whole_text_or NoMemory change.text change.range

-- The state after changes, one after the other.
unfoldable pub changed_state : DocumentState → List ChangeForm → DocumentState
changed_state state [] = state
changed_state state (change ∷ changes) = changed_state (state_after state change) changes

-- After changes that aren't well formed the text is unsure; what wants memory stays so.
abbrev pub unsure_state : DocumentState → DocumentState
unsure_state (Sure text) = Unsure
unsure_state Unsure = Unsure
unsure_state NoMemory = NoMemory

-- The state after the changes of a `didChange`; none are those that aren't well formed.
abbrev pub state_by : DocumentState → Option (List ChangeForm) → DocumentState
state_by state None = unsure_state state
state_by state (Some changes) = changed_state state changes
