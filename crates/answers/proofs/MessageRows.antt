-- Worked messages: what each means in a session, and what documents come to.
use Rattle.std.proofs.Common.{◌≡◌, refl, Some, None, [], ◌∷◌}
use Rattle.std.specs.Prelude.{codes, pos}
use Rattle.serde_json.specs.Data.{null}
use Rattle.documents.specs.Edits.{within}
use Rattle.json_rpc.specs.declared.message.Id.{Id}
use Rattle.json_rpc.specs.declared.message.Id.TheVariants.{Number}
use Rattle.json_rpc.specs.Messages.{request, notice, response, invalid}
use Rattle.answers.specs.declared.types.Phase.TheVariants.{Running, Stopped}
use Rattle.answers.specs.declared.types.DocumentState.TheVariants.{Sure, Unsure, NoMemory}
use Rattle.answers.specs.Failures.{parse_error, invalid_request, unknown_method, not_initialized, invalid_params}
use Rattle.answers.specs.Asks.{Met, missing}
use Rattle.answers.specs.Sessions.{Seen, start, document_of, with_document, changed_state, state_by}
use Rattle.answers.specs.Replies.{failure}
use Rattle.answers.specs.Messages.{says, stops, leaves, drops, fails, fresh_request, running_request, notice_in, meaning_in, completion_in, lacks, said, published}

id : Id
id = Number (pos 1)

running : Seen
running = record start { phase = Running }

stopped : Seen
stopped = record start { phase = Stopped }

no-json-row : meaning_in start None ≡ says None (failure parse_error)
no-json-row = refl

no-message-row : meaning_in start (Some (invalid (Some id))) ≡ says (Some id) (failure invalid_request)
no-message-row = refl

response-row : meaning_in running (Some response) ≡ drops
response-row = refl

early-row : meaning_in start (Some (request id (codes "shutdown") null)) ≡ fails id not_initialized
unfolding fresh_request
early-row = refl

shutdown-row : meaning_in running (Some (request id (codes "shutdown") null)) ≡ stops id
unfolding running running_request
shutdown-row = refl

twice-row : meaning_in running (Some (request id (codes "initialize") null)) ≡ fails id invalid_request
unfolding running running_request
twice-row = refl

exit-request-row : meaning_in running (Some (request id (codes "exit") null)) ≡ fails id unknown_method
unfolding running running_request
exit-request-row = refl

late-row : meaning_in stopped (Some (request id (codes "textDocument/completion") null)) ≡ fails id invalid_request
unfolding stopped
late-row = refl

exit-row : meaning_in start (Some (notice (codes "exit") null)) ≡ leaves
unfolding notice_in
exit-row = refl

dropped-row : meaning_in start (Some (notice (codes "textDocument/didOpen") null)) ≡ drops
unfolding notice_in
dropped-row = refl

closed-row : completion_in running id (record { uri = codes "u"; line = 0; character = 0 }) None ≡ fails id (invalid_params 3 0)
closed-row = refl

unsure-row : completion_in running id (record { uri = codes "u"; line = 0; character = 0 }) (Some Unsure) ≡ fails id (invalid_params 4 0)
unsure-row = refl

lacking-row : completion_in running id (record { uri = codes "u"; line = 0; character = 0 }) (Some NoMemory) ≡ lacks id
lacking-row = refl

missing-row : (m : Met) → published running id [] [] m (missing 3) ≡ said running (Some id) (failure (invalid_params 9 3))
missing-row m = refl

-- A change with a range is passed over in a text that is unsure, and the whole text makes it sure.
ranged-row : state_by Unsure (Some (record { range = Some ((0, 0), (0, 0)); text = codes "x" } ∷ [])) ≡ Unsure
unfolding changed_state
ranged-row = refl

whole-row : state_by NoMemory (Some (record { range = Some ((0, 0), (0, 0)); text = codes "x" } ∷ record { range = None; text = codes "abc" } ∷ [])) ≡ Sure (codes "abc")
unfolding changed_state within
whole-row = refl

broken-row : state_by (Sure (codes "abc")) None ≡ Unsure
broken-row = refl

kept-row : document_of (codes "u") (with_document (codes "u") Unsure (with_document (codes "v") NoMemory [])) ≡ Some Unsure
unfolding document_of with_document
kept-row = refl
