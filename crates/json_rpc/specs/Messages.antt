-- What the JSON value of a body is as a message (JSON-RPC 2.0, sections 4 and 5).
use Rattle.std.specs.Prelude.{◌≡◌, ℕ, ℤ, negsuc, List, codes, Bool, false, ◌&&◌, ◌||◌, bytes_eq, is_some, Option, Some, None, option_map, if◌then◌else◌}
use Rattle.std.specs.Str.{is_utf8}
use Rattle.serde_json.specs.Data.{Data, null, boolean, number, string, array, object}
use Rattle.serde_json.specs.Find.{get, as_i64}
use Rattle.serde_json.specs.Read.{read}
use Rattle.serde_json.specs.View.{view}
use Rattle.json_rpc.specs.declared.message.Id.{Id}
use Rattle.json_rpc.specs.declared.message.Id.TheVariants.{Number, Text}
use Rattle.json_rpc.specs.declared.message.Message.{Message}
use Rattle.json_rpc.specs.declared.message.Message.TheVariants.{Request, Notice, Response}
use Rattle.json_rpc.specs.declared.message.RpcFault.{RpcFault}
use Rattle.json_rpc.specs.declared.message.RpcRefusal.{RpcRefusal}
use Rattle.json_rpc.specs.declared.message.RpcRefusal.TheVariants.{Fault, OutOfMemory}

-- What a JSON value is: a request, a notification, a response, or no valid message, with the id that it shows.
pub data Heard : Type 0 where
  request : Id → List ℕ → Data → Heard
  notice : List ℕ → Data → Heard
  response : Heard
  invalid : Option Id → Heard

-- An id is a string or a whole number of 64 bits with sign.
unfoldable pub id_of : Data → Option Id
id_of null = None
id_of (boolean b) = None
id_of (number n) = option_map Number (as_i64 n)
id_of (string s) = Some (Text s)
id_of (array ds) = None
id_of (object ms) = None

-- The id that a member `id` shows.
unfoldable pub id_in : Option Data → Option Id
id_in None = None
id_in (Some d) = id_of d

-- Parameters are an object or an array; null counts as missing, and what is missing as null.
unfoldable pub params_of : Option Data → Option Data
params_of None = Some null
params_of (Some null) = Some null
params_of (Some (boolean b)) = None
params_of (Some (number n)) = None
params_of (Some (string s)) = None
params_of (Some (array ds)) = Some (array ds)
params_of (Some (object ms)) = Some (object ms)

-- Whether a member `jsonrpc` is the string "2.0".
unfoldable pub is_version : Option Data → Bool
is_version None = false
is_version (Some null) = false
is_version (Some (boolean b)) = false
is_version (Some (number n)) = false
is_version (Some (string s)) = bytes_eq s (codes "2.0")
is_version (Some (array ds)) = false
is_version (Some (object ms)) = false

-- A message with a method and parameters, by what its member `id` is.
abbrev pub request_of : Option Id → List ℕ → Data → Heard
request_of None method params = invalid None
request_of (Some id) method params = request id method params

-- A message with a method and parameters, by its member `id`: without one it is a notification.
unfoldable pub by_id : Option Data → List ℕ → Data → Heard
by_id None method params = notice method params
by_id (Some d) method params = request_of (id_of d) method params

-- A message with a method, by its members `id` and `params`.
unfoldable pub by_params : Option Data → Option Data → List ℕ → Heard
by_params id None method = invalid (id_in id)
by_params id (Some params) method = by_id id method params

-- A value without a method is a response where it has an id and a result or an error.
unfoldable pub without_method : Data → Heard
without_method d =
    if is_some (get (codes "id") d) && (is_some (get (codes "result") d) || is_some (get (codes "error") d)) then response
    else invalid (id_in (get (codes "id") d))

-- A value with a string as its method.
unfoldable pub with_method : Data → List ℕ → Heard
with_method d method =
    if is_version (get (codes "jsonrpc") d) then by_params (get (codes "id") d) (params_of (get (codes "params") d)) method
    else invalid (id_in (get (codes "id") d))

-- A value by its member `method`.
unfoldable pub by_method : Option Data → Data → Heard
by_method None d = without_method d
by_method (Some null) d = invalid (id_in (get (codes "id") d))
by_method (Some (boolean b)) d = invalid (id_in (get (codes "id") d))
by_method (Some (number n)) d = invalid (id_in (get (codes "id") d))
by_method (Some (string s)) d = with_method d s
by_method (Some (array ds)) d = invalid (id_in (get (codes "id") d))
by_method (Some (object ms)) d = invalid (id_in (get (codes "id") d))

-- What a JSON value is as a message. A value that is no object has no member.
abbrev pub heard : Data → Heard
heard d = by_method (get (codes "method") d) d

-- What a body is as a message, or none where it is no JSON.
unfoldable pub message_of : List ℕ → Option Heard
message_of body = if is_utf8 body then option_map heard (read body) else None

-- What a message of the code says.
abbrev pub heard_as : Message → Heard
heard_as (Request id method params) = request id method (view params)
heard_as (Notice method params) = notice method (view params)
heard_as Response = response

-- The codes of JSON-RPC 2.0, section 5.1: -32700 and -32600.
abbrev pub parse_error : ℤ
parse_error = negsuc 32699

abbrev pub invalid_request : ℤ
invalid_request = negsuc 32599

-- The fault is the one of this body, exactly: no JSON, or no valid message.
abbrev pub IsFaultOf : Option Heard → RpcFault → Type 0
IsFaultOf None f = (f.code ≡ parse_error) × (f.id ≡ None)
IsFaultOf (Some (request id method params)) f = ⊥
IsFaultOf (Some (notice method params)) f = ⊥
IsFaultOf (Some response) f = ⊥
IsFaultOf (Some (invalid id)) f = (f.code ≡ invalid_request) × (f.id ≡ id)

-- The same where memory may be wanting.
abbrev pub Refuses : Option Heard → RpcRefusal → Type 0
Refuses h (Fault f) = IsFaultOf h f
Refuses h OutOfMemory = Unit {0}
