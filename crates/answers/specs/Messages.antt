-- The answer to one message: a function of the session, the message's body and what it met.
use Rattle.std.specs.Prelude.{ℕ, List, [], codes, bytes_eq, Bool, true, false, if◌then◌else◌, Option, Some, None, Result, Ok, Err}
use Rattle.std.specs.Str.{chars}
use Rattle.serde_json.specs.Data.{Data, null}
use Rattle.decl_index.specs.declared.change.Change.TheVariants.{Publish, Withdraw, SetWeights}
use Rattle.documents.specs.Edits.{within}
use Rattle.documents.specs.Places.{offset_of}
use Rattle.json_rpc.specs.declared.message.Id.{Id}
use Rattle.json_rpc.specs.Messages.{Heard, request, notice, response, invalid, message_of}
use Rattle.lsp_forms.specs.declared.forms.ParamFault.{ParamFault}
use Rattle.lsp_forms.specs.declared.forms.Initialize.{Initialize}
use Rattle.lsp_forms.specs.declared.forms.DidOpen.{DidOpen}
use Rattle.lsp_forms.specs.declared.forms.DidChange.{DidChange}
use Rattle.lsp_forms.specs.declared.forms.DidClose.{DidClose}
use Rattle.lsp_forms.specs.declared.forms.ChangeForm.{ChangeForm}
use Rattle.lsp_forms.specs.declared.forms.Completion.{Completion}
use Rattle.lsp_forms.specs.declared.forms.Command.{Command}
use Rattle.lsp_forms.specs.declared.forms.Command.TheVariants as command
use Rattle.lsp_forms.specs.Forms.{initialize_of, did_open_of, did_change_of, did_close_of, completion_of}
use Rattle.lsp_forms.specs.Commands.{command_of}
use Rattle.lsp_forms.specs.Results.{capabilities}
use Rattle.answers.specs.declared.types.Phase.{Phase}
use Rattle.answers.specs.declared.types.Phase.TheVariants.{Fresh, Running, Stopped}
use Rattle.answers.specs.declared.types.DocumentState.{DocumentState}
use Rattle.answers.specs.declared.types.DocumentState.TheVariants.{Sure, Unsure, NoMemory}
use Rattle.answers.specs.declared.types.OpenDocument.{OpenDocument}
use Rattle.answers.specs.declared.types.NamedFiles.{NamedFiles}
use Rattle.answers.specs.Failures.{Failure, parse_error, invalid_request, unknown_method, not_initialized, invalid_params, no_class, read_fault}
use Rattle.answers.specs.Asks.{Ask, complete, page, close, explain, change, exit, other, Loaded, classes, missing, too_long, no_class_file, no_text, unreadable, Short, Enough, Lacking, Ending, Met, list_answer_to}
use Rattle.answers.specs.Sessions.{Seen, document_of, with_document, without_document, state_of, state_by}
use Rattle.answers.specs.Replies.{Reply, result, failure, reply_text, reply_of}

-- What a notification does to a document: its text is set, it is changed, or it is closed.
pub data DocumentEdit : Type 0 where
  opening : (text : List ℕ) → DocumentEdit
  changing : (changes : Option (List ChangeForm)) → DocumentEdit
  closing : DocumentEdit

-- What a message names that is no publication.
abbrev pub no_files : NamedFiles
no_files = record { puts = []; sources = []; known = [] }

-- What a message means in a session: a request about lists and versions; a publication, which names its files and the classes
-- that its sources may mean; a request that the session alone answers, where a message that shows no id has none; a request in a
-- document for which memory was wanting; `initialize` and `shutdown`; a notification of a document; `exit`; or nothing.
pub data Meaning : Type 0 where
  asks : (id : Id) (ask : Ask) → Meaning
  publishes : (id : Id) (files : NamedFiles) (removes : List (List ℕ)) (counts : List (List ℕ × ℕ)) → Meaning
  says : (id : Option Id) (reply : Reply) → Meaning
  lacks : (id : Id) → Meaning
  starts : (id : Id) (options : Initialize) → Meaning
  stops : (id : Id) → Meaning
  edits : (uri : List ℕ) (edit : DocumentEdit) → Meaning
  leaves : Meaning
  drops : Meaning

abbrev pub fails : Id → Failure → Meaning
fails id f = says (Some id) (failure f)

abbrev pub fault_of : Id → ParamFault → Meaning
fault_of id f = fails id (invalid_params f.cause f.index)

-- A completion at a place of a text; cause 5 where the line isn't there.
abbrev pub completion_at : Seen → Id → List ℕ → Option ℕ → Meaning
completion_at s id text None = fails id (invalid_params 5 0)
completion_at s id text (Some place) = asks id (complete (record { text = text; place = place; limit = s.options.limit; depth = s.options.depth }) s.options.count)

-- A completion in a document; cause 3 where it isn't open, 4 where its text is unsure.
abbrev pub completion_in : Seen → Id → Completion → Option DocumentState → Meaning
completion_in s id form None = fails id (invalid_params 3 0)
completion_in s id form (Some Unsure) = fails id (invalid_params 4 0)
completion_in s id form (Some NoMemory) = lacks id
completion_in s id form (Some (Sure text)) = completion_at s id text (offset_of (chars text) form.line form.character)

abbrev pub completion_by : Seen → Id → Result Completion ParamFault → Meaning
completion_by s id (Err f) = fault_of id f
completion_by s id (Ok form) = completion_in s id form (document_of form.uri s.documents)

-- A publication comes after its files were loaded.
abbrev pub command_by : Id → Result Command ParamFault → Meaning
command_by id (Err f) = fault_of id f
command_by id (Ok (command.Page cursor count)) = asks id (page cursor count)
command_by id (Ok (command.Close cursor)) = asks id (close cursor)
command_by id (Ok (command.Explain cursor item)) = asks id (explain cursor item)
command_by id (Ok (command.Publish puts removes counts sources known)) = publishes id (record { puts = puts; sources = sources; known = known }) removes counts
command_by id (Ok (command.Withdraw through)) = asks id (change (Withdraw through))
command_by id (Ok (command.SetWeights weights)) = asks id (change (SetWeights weights))

abbrev pub initialize_by : Id → Result Initialize ParamFault → Meaning
initialize_by id (Err f) = fault_of id f
initialize_by id (Ok options) = starts id options

-- A request between `initialize` and `shutdown`.
unfoldable pub running_request : Seen → Id → List ℕ → Data → Meaning
running_request s id method params =
    if bytes_eq method (codes "textDocument/completion") then completion_by s id (completion_of params)
    else if bytes_eq method (codes "workspace/executeCommand") then command_by id (command_of params)
    else if bytes_eq method (codes "shutdown") then stops id
    else if bytes_eq method (codes "initialize") then fails id invalid_request
    else fails id unknown_method

-- A request before `initialize` is answered.
unfoldable pub fresh_request : Id → List ℕ → Data → Meaning
fresh_request id method params = if bytes_eq method (codes "initialize") then initialize_by id (initialize_of params) else fails id not_initialized

-- The phase comes before the method.
abbrev pub request_by : Phase → Seen → Id → List ℕ → Data → Meaning
request_by Fresh s id method params = fresh_request id method params
request_by Running s id method params = running_request s id method params
request_by Stopped s id method params = fails id invalid_request

abbrev pub open_by : Result DidOpen ParamFault → Meaning
open_by (Err f) = drops
open_by (Ok form) = edits form.uri (opening form.text)

-- A notification of a document that isn't open is dropped, unless it opens it.
abbrev pub edit_if_open : List ℕ → DocumentEdit → Option DocumentState → Meaning
edit_if_open uri edit None = drops
edit_if_open uri edit (Some state) = edits uri edit

abbrev pub change_by : Seen → Result DidChange ParamFault → Meaning
change_by s (Err f) = drops
change_by s (Ok form) = edit_if_open form.uri (changing form.changes) (document_of form.uri s.documents)

abbrev pub close_by : Seen → Result DidClose ParamFault → Meaning
close_by s (Err f) = drops
close_by s (Ok form) = edit_if_open form.uri closing (document_of form.uri s.documents)

-- A notification between `initialize` and `shutdown`; unknown ones are dropped.
unfoldable pub running_notice : Seen → List ℕ → Data → Meaning
running_notice s method params =
    if bytes_eq method (codes "textDocument/didOpen") then open_by (did_open_of params)
    else if bytes_eq method (codes "textDocument/didChange") then change_by s (did_change_of params)
    else if bytes_eq method (codes "textDocument/didClose") then close_by s (did_close_of params)
    else drops

abbrev pub notice_by : Phase → Seen → List ℕ → Data → Meaning
notice_by Fresh s method params = drops
notice_by Running s method params = running_notice s method params
notice_by Stopped s method params = drops

-- An `exit` is taken in each phase.
unfoldable pub notice_in : Seen → List ℕ → Data → Meaning
notice_in s method params = if bytes_eq method (codes "exit") then leaves else notice_by s.phase s method params

-- A message by what its JSON value is.
abbrev pub meaning_in : Seen → Option Heard → Meaning
meaning_in s None = says None (failure parse_error)
meaning_in s (Some (invalid id)) = says id (failure invalid_request)
meaning_in s (Some response) = drops
meaning_in s (Some (request id method params)) = request_by s.phase s id method params
meaning_in s (Some (notice method params)) = notice_in s method params

-- What a body means in a session.
abbrev pub meaning_of : Seen → List ℕ → Meaning
meaning_of s body = meaning_in s (message_of body)

-- The files that it names.
abbrev pub files_in : Meaning → NamedFiles
files_in (asks id ask) = no_files
files_in (publishes id files removes counts) = files
files_in (says id reply) = no_files
files_in (lacks id) = no_files
files_in (starts id options) = no_files
files_in (stops id) = no_files
files_in (edits uri edit) = no_files
files_in leaves = no_files
files_in drops = no_files

-- A publication asks for a change where none of its files gave nothing.
abbrev pub ask_by : List (List ℕ) → List (List ℕ × ℕ) → Loaded → Ask
ask_by removes counts (classes puts) = change (Publish puts removes counts)
ask_by removes counts (missing index) = other
ask_by removes counts (too_long index) = other
ask_by removes counts (no_class_file index class_fault place) = other
ask_by removes counts (no_text index) = other
ask_by removes counts (unreadable index) = other

-- What it asks of lists and versions, where its files gave this.
abbrev pub ask_in : Meaning → Loaded → Ask
ask_in (asks id ask) loads = ask
ask_in (publishes id files removes counts) loads = ask_by removes counts loads
ask_in (says id reply) loads = other
ask_in (lacks id) loads = other
ask_in (starts id options) loads = other
ask_in (stops id) loads = other
ask_in (edits uri edit) loads = other
ask_in leaves loads = exit
ask_in drops loads = other

-- The outcome of a message: a reply with this body, the reply "no memory", no reply, the end of the session after an
-- `exit`, where it is told whether `shutdown` came before, or its end for want of memory.
pub data Outcome : Type 0 where
  replied : (body : List ℕ) → Outcome
  no_memory : (id : Id) → Outcome
  silent : Outcome
  exited : (is_stopped : Bool) → Outcome
  lost : Outcome

abbrev pub is_stopped : Phase → Bool
is_stopped Fresh = false
is_stopped Running = false
is_stopped Stopped = true

-- The documents after an edit of one.
abbrev pub documents_after : List ℕ → DocumentEdit → List OpenDocument → Option DocumentState → List OpenDocument
documents_after uri (opening text) ds state = with_document uri (state_of (within text)) ds
documents_after uri (changing changes) ds None = ds
documents_after uri (changing changes) ds (Some state) = with_document uri (state_by state changes) ds
documents_after uri closing ds state = without_document uri ds

-- A question is answered.
abbrev pub asked : Seen → Id → Ask → Met → Seen × Outcome
asked s id ask m = (
  record s { lists = (list_answer_to s.lists ask m).0 },
  replied (reply_text (Some id) (reply_of s.lists m ask (list_answer_to s.lists ask m).1)),
)

-- The session alone answers.
abbrev pub said : Seen → Option Id → Reply → Seen × Outcome
said s id reply = (s, replied (reply_text id reply))

-- A publication is answered by its change, or by the first of its files that gave nothing.
abbrev pub published : Seen → Id → List (List ℕ) → List (List ℕ × ℕ) → Met → Loaded → Seen × Outcome
published s id removes counts m (classes puts) = asked s id (change (Publish puts removes counts)) m
published s id removes counts m (missing index) = said s (Some id) (failure (invalid_params 9 index))
published s id removes counts m (too_long index) = said s (Some id) (failure (invalid_params 10 index))
published s id removes counts m (no_class_file index class_fault place) = said s (Some id) (failure (no_class index class_fault place))
published s id removes counts m (no_text index) = said s (Some id) (failure (invalid_params 21 index))
published s id removes counts m (unreadable index) = said s (Some id) (failure (read_fault index))

-- The session and the outcome, where memory isn't wanting.
abbrev pub enough_for : Seen → Meaning → Met → Seen × Outcome
enough_for s (asks id ask) m = asked s id ask m
enough_for s (publishes id files removes counts) m = published s id removes counts m m.loads
enough_for s (says id reply) m = said s id reply
enough_for s (lacks id) m = (s, no_memory id)
enough_for s (starts id options) m = (record s { phase = Running; options = options }, replied (reply_text (Some id) (result capabilities)))
enough_for s (stops id) m = (record s { phase = Stopped }, replied (reply_text (Some id) (result null)))
enough_for s (edits uri edit) m = (record s { documents = documents_after uri edit s.documents (document_of uri s.documents) }, silent)
enough_for s leaves m = (s, exited (is_stopped s.phase))
enough_for s drops m = (s, silent)

-- Where memory is wanting a request is answered so, and a document that a notification speaks of has no memory; a reply with
-- the id null ends the session.
abbrev pub lacking_for : Seen → Meaning → Seen × Outcome
lacking_for s (asks id ask) = (s, no_memory id)
lacking_for s (publishes id files removes counts) = (s, no_memory id)
lacking_for s (says None reply) = (s, lost)
lacking_for s (says (Some id) reply) = (s, no_memory id)
lacking_for s (lacks id) = (s, no_memory id)
lacking_for s (starts id options) = (s, no_memory id)
lacking_for s (stops id) = (s, no_memory id)
lacking_for s (edits uri edit) = (record s { documents = with_document uri NoMemory s.documents }, silent)
lacking_for s leaves = (s, exited (is_stopped s.phase))
lacking_for s drops = (s, silent)

abbrev pub by_memory : Short → Seen → Meaning → Met → Seen × Outcome
by_memory Enough s meaning m = enough_for s meaning m
by_memory Lacking s meaning m = lacking_for s meaning
by_memory Ending s meaning m = (s, lost)

-- The answer to a message, and the session after it.
abbrev pub answer_to : Seen → List ℕ → Met → Seen × Outcome
answer_to s body m = by_memory m.short s (meaning_of s body) m
