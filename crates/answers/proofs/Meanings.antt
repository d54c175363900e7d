-- What a message can mean: a question other than `exit`, or a reply that tells nothing of lists and versions.
use Rattle.std.proofs.Common.{ℕ, List, Bool, true, false, Option, None, Some}
use Rattle.std.specs.Prelude.{if◌then◌else◌, codes, bytes_eq, Result, Ok, Err}
use Rattle.std.specs.Str.{chars}
use Rattle.serde_json.specs.Data.{Data}
use Rattle.documents.specs.Places.{offset_of}
use Rattle.json_rpc.specs.declared.message.Id.{Id}
use Rattle.json_rpc.specs.Messages.{Heard, request, notice, response, invalid, message_of}
use Rattle.lsp_forms.specs.declared.forms.ParamFault.{ParamFault}
use Rattle.lsp_forms.specs.declared.forms.Initialize.{Initialize}
use Rattle.lsp_forms.specs.declared.forms.DidOpen.{DidOpen}
use Rattle.lsp_forms.specs.declared.forms.DidChange.{DidChange}
use Rattle.lsp_forms.specs.declared.forms.DidClose.{DidClose}
use Rattle.lsp_forms.specs.declared.forms.Completion.{Completion}
use Rattle.lsp_forms.specs.declared.forms.Command.{Command}
use Rattle.lsp_forms.specs.declared.forms.Command.TheVariants as command
use Rattle.lsp_forms.specs.Forms.{initialize_of, did_open_of, did_change_of, did_close_of, completion_of}
use Rattle.lsp_forms.specs.Commands.{command_of}
use Rattle.answers.specs.declared.types.Phase.{Phase}
use Rattle.answers.specs.declared.types.Phase.TheVariants.{Fresh, Running, Stopped}
use Rattle.answers.specs.declared.types.DocumentState.{DocumentState}
use Rattle.answers.specs.declared.types.DocumentState.TheVariants.{Sure, Unsure, NoMemory}
use Rattle.answers.specs.Failures.{unknown_method, invalid_request, not_initialized}
use Rattle.answers.specs.Asks.{Ask, complete, page, close, explain, change, exit, other}
use Rattle.answers.specs.Sessions.{Seen, document_of}
use Rattle.answers.specs.Messages.{DocumentEdit, closing, changing, Meaning, asks, publishes, says, lacks, starts, stops, edits, leaves, drops, fails, completion_at, completion_in, completion_by, command_by, initialize_by, running_request, fresh_request, request_by, open_by, edit_if_open, change_by, close_by, running_notice, notice_by, notice_in, meaning_in, meaning_of}
use Rattle.answers.specs.Tells.{IsPlain}

-- A question about lists or versions.
abbrev pub IsQuestion : Ask → Type 0
IsQuestion (complete hole count) = Unit {0}
IsQuestion (page k count) = Unit {0}
IsQuestion (close k) = Unit {0}
IsQuestion (explain k item) = Unit {0}
IsQuestion (change c) = Unit {0}
IsQuestion exit = ⊥
IsQuestion other = ⊥

abbrev pub CanBe : Meaning → Type 0
CanBe (asks id ask) = IsQuestion ask
CanBe (publishes id files removes counts) = Unit {0}
CanBe (says id reply) = IsPlain reply
CanBe (lacks id) = Unit {0}
CanBe (starts id options) = Unit {0}
CanBe (stops id) = Unit {0}
CanBe (edits uri edit) = Unit {0}
CanBe leaves = Unit {0}
CanBe drops = Unit {0}

either : (b : Bool) (x y : Meaning) → CanBe x → CanBe y → CanBe (if b then x else y)
either true x y p q = p
either false x y p q = q

completion_place : (s : Seen) (id : Id) (text : List ℕ) (o : Option ℕ) → CanBe (completion_at s id text o)
completion_place s id text None = tt
completion_place s id text (Some place) = tt

completion_document : (s : Seen) (id : Id) (form : Completion) (o : Option DocumentState) → CanBe (completion_in s id form o)
completion_document s id form None = tt
completion_document s id form (Some Unsure) = tt
completion_document s id form (Some NoMemory) = tt
completion_document s id form (Some (Sure text)) = completion_place s id text (offset_of (chars text) form.line form.character)

completion_form : (s : Seen) (id : Id) (r : Result Completion ParamFault) → CanBe (completion_by s id r)
completion_form s id (Err f) = tt
completion_form s id (Ok form) = completion_document s id form (document_of form.uri s.documents)

command_form : (id : Id) (r : Result Command ParamFault) → CanBe (command_by id r)
command_form id (Err f) = tt
command_form id (Ok (command.Page cursor count)) = tt
command_form id (Ok (command.Close cursor)) = tt
command_form id (Ok (command.Explain cursor item)) = tt
command_form id (Ok (command.Publish puts removes counts sources known)) = tt
command_form id (Ok (command.Withdraw through)) = tt
command_form id (Ok (command.SetWeights weights)) = tt

initialize_form : (id : Id) (r : Result Initialize ParamFault) → CanBe (initialize_by id r)
initialize_form id (Err f) = tt
initialize_form id (Ok options) = tt

-- The last choices of a request.
rest_of_requests : (id : Id) (a b : Bool) → CanBe (if a then stops id else if b then fails id invalid_request else fails id unknown_method)
rest_of_requests id true b = tt
rest_of_requests id false true = tt
rest_of_requests id false false = tt

running : (s : Seen) (id : Id) (method : List ℕ) (params : Data) → CanBe (running_request s id method params)
unfolding running_request
running s id method params =
    let a : Bool = bytes_eq method (codes "shutdown") in
    let b : Bool = bytes_eq method (codes "initialize") in
    let last : Meaning = if a then stops id else if b then fails id invalid_request else fails id unknown_method in
    let commands : Meaning = if bytes_eq method (codes "workspace/executeCommand") then command_by id (command_of params) else last in
    either (bytes_eq method (codes "textDocument/completion")) (completion_by s id (completion_of params)) commands (completion_form s id (completion_of params))
    (either (bytes_eq method (codes "workspace/executeCommand")) (command_by id (command_of params)) last (command_form id (command_of params)) (rest_of_requests id a b))

fresh : (id : Id) (method : List ℕ) (params : Data) → CanBe (fresh_request id method params)
unfolding fresh_request
fresh id method params = either (bytes_eq method (codes "initialize")) (initialize_by id (initialize_of params)) (fails id not_initialized) (initialize_form id (initialize_of params)) tt

request_phase : (phase : Phase) (s : Seen) (id : Id) (method : List ℕ) (params : Data) → CanBe (request_by phase s id method params)
request_phase Fresh s id method params = fresh id method params
request_phase Running s id method params = running s id method params
request_phase Stopped s id method params = tt

edit_open : (uri : List ℕ) (edit : DocumentEdit) (o : Option DocumentState) → CanBe (edit_if_open uri edit o)
edit_open uri edit None = tt
edit_open uri edit (Some state) = tt

open_form : (r : Result DidOpen ParamFault) → CanBe (open_by r)
open_form (Err f) = tt
open_form (Ok form) = tt

change_form : (s : Seen) (r : Result DidChange ParamFault) → CanBe (change_by s r)
change_form s (Err f) = tt
change_form s (Ok form) = edit_open form.uri (changing form.changes) (document_of form.uri s.documents)

close_form : (s : Seen) (r : Result DidClose ParamFault) → CanBe (close_by s r)
close_form s (Err f) = tt
close_form s (Ok form) = edit_open form.uri closing (document_of form.uri s.documents)

notices : (s : Seen) (method : List ℕ) (params : Data) → CanBe (running_notice s method params)
unfolding running_notice
notices s method params =
    let closes : Meaning = if bytes_eq method (codes "textDocument/didClose") then close_by s (did_close_of params) else drops in
    let changes : Meaning = if bytes_eq method (codes "textDocument/didChange") then change_by s (did_change_of params) else closes in
    either (bytes_eq method (codes "textDocument/didOpen")) (open_by (did_open_of params)) changes (open_form (did_open_of params))
    (either (bytes_eq method (codes "textDocument/didChange")) (change_by s (did_change_of params)) closes (change_form s (did_change_of params))
    (either (bytes_eq method (codes "textDocument/didClose")) (close_by s (did_close_of params)) drops (close_form s (did_close_of params)) tt))

notice_phase : (phase : Phase) (s : Seen) (method : List ℕ) (params : Data) → CanBe (notice_by phase s method params)
notice_phase Fresh s method params = tt
notice_phase Running s method params = notices s method params
notice_phase Stopped s method params = tt

heard_means : (s : Seen) (o : Option Heard) → CanBe (meaning_in s o)
unfolding notice_in
heard_means s None = tt
heard_means s (Some (invalid id)) = tt
heard_means s (Some response) = tt
heard_means s (Some (request id method params)) = request_phase s.phase s id method params
heard_means s (Some (notice method params)) = either (bytes_eq method (codes "exit")) leaves (notice_by s.phase s method params) tt (notice_phase s.phase s method params)

pub means : (s : Seen) (body : List ℕ) → CanBe (meaning_of s body)
means s body = heard_means s (message_of body)
