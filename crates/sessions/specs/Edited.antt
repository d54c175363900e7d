-- What an edit leaves of the documents, where memory may be wanting.
use Rattle.std.specs.Prelude.{◌≡◌, ◌⊎◌, ℕ, List, Option, Some, None}
use Rattle.answers.specs.declared.types.DocumentState.{DocumentState}
use Rattle.answers.specs.declared.types.DocumentState.TheVariants.{NoMemory}
use Rattle.answers.specs.declared.types.OpenDocument.{OpenDocument}
use Rattle.answers.specs.Sessions.{with_document}

-- The document is in the state, or has no memory.
abbrev pub IsSetTo : List ℕ → DocumentState → List OpenDocument → List OpenDocument → Type 0
IsSetTo uri state old new = (new ≡ with_document uri state old) ⊎ (new ≡ with_document uri NoMemory old)

-- The same, by the state that it had; where it wasn't open, all is as before.
abbrev pub IsSetBy : List ℕ → (DocumentState → DocumentState) → List OpenDocument → List OpenDocument → Option DocumentState → Type 0
IsSetBy uri change old new None = new ≡ old
IsSetBy uri change old new (Some state) = IsSetTo uri (change state) old new
