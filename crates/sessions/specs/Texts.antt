-- The bodies of replies.
use Rattle.std.specs.Prelude.{ℕ, List, Bool, if◌then◌else◌, Option, Some}
use Rattle.serde_json.specs.Data.{Data}
use Rattle.json_rpc.specs.declared.message.Id.{Id}
use Rattle.lsp_forms.specs.Results.{version_answer}
use Rattle.serde_json.specs.Data.{object, null}
use Rattle.answers.specs.Failures.{invalid_params, data_of}
use Rattle.answers.specs.Replies.{reply_data, reply_text, error_members, result, failure}
use Rattle.sessions.specs.declared.failure.Failure as code
use Rattle.sessions.specs.Failing.{failure_of}

-- The reply with a result.
abbrev pub result_text : Id → Data → List ℕ
result_text id d = reply_text (Some id) (result d)

-- The reply that tells a version.
abbrev pub version_text : Id → ℕ → List ℕ
version_text id number = result_text id (version_answer number)

-- The reply with an error, which has the id null where none is shown.
abbrev pub failure_text : Option Id → code.Failure → List ℕ
failure_text id f = reply_text id (failure (failure_of f))

-- The same as JSON.
abbrev pub result_data : Id → Data → Data
result_data id d = reply_data (Some id) (result d)

abbrev pub failure_data : Option Id → code.Failure → Data
failure_data id f = reply_data id (failure (failure_of f))

abbrev pub error_data : code.Failure → Data
error_data f = object (error_members (failure_of f) (data_of (failure_of f)))

-- The reply to a request that closes a cursor, by whether it is kept.
abbrev pub shut_text : Id → Bool → List ℕ
shut_text id is_kept = reply_text (Some id) (if is_kept then result null else failure (invalid_params 6 0))
