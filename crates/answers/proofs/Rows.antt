-- Worked replies, byte by byte.
use Rattle.std.proofs.Common.{◌≡◌, refl, Some, None, [], ◌∷◌}
use Rattle.std.specs.Prelude.{codes, pos, negsuc}
use Rattle.std.specs.Fmt.{digits}
use Rattle.json.specs.Print.{escape_byte}
use Rattle.serde_json.specs.Data.{null}
use Rattle.decl_index.specs.declared.change.ChangeFault.TheVariants.{Cyclic, TooHigh, JournalFull}
use Rattle.json_rpc.specs.declared.message.Id.TheVariants.{Number, Text}
use Rattle.terms.specs.declared.parts.Parts.{Parts}
use Rattle.answers.specs.Certificates.{bounded, certificate_data}
use Rattle.answers.specs.Failures.{parse_error, unknown_method, invalid_params, no_class, change_refused, version_withdrawn, read_fault}
use Rattle.answers.specs.Replies.{result, failure, reply_text}

null-row : reply_text (Some (Number (pos 7))) (result null) ≡ codes "{\"id\":7,\"jsonrpc\":\"2.0\",\"result\":null}"
unfolding escape_byte digits
null-row = refl

parse-row : reply_text None (failure parse_error) ≡ codes "{\"error\":{\"code\":-32700,\"message\":\"parse error\"},\"id\":null,\"jsonrpc\":\"2.0\"}"
unfolding escape_byte digits
parse-row = refl

method-row : reply_text (Some (Text (codes "a"))) (failure unknown_method) ≡ codes "{\"error\":{\"code\":-32601,\"message\":\"method not found\"},\"id\":\"a\",\"jsonrpc\":\"2.0\"}"
unfolding escape_byte digits
method-row = refl

params-row : reply_text (Some (Number (negsuc 0))) (failure (invalid_params 13 2)) ≡ codes "{\"error\":{\"code\":-32602,\"data\":{\"cause\":13,\"index\":2},\"message\":\"invalid params\"},\"id\":-1,\"jsonrpc\":\"2.0\"}"
unfolding escape_byte digits
params-row = refl

class-row : reply_text (Some (Number (pos 1))) (failure (no_class 0 4 17)) ≡ codes "{\"error\":{\"code\":-32602,\"data\":{\"at\":17,\"cause\":11,\"class\":4,\"index\":0},\"message\":\"invalid params\"},\"id\":1,\"jsonrpc\":\"2.0\"}"
unfolding escape_byte digits
class-row = refl

cyclic-row : reply_text (Some (Number (pos 1))) (failure (change_refused (Cyclic (codes "p/A")))) ≡ codes "{\"error\":{\"code\":-32602,\"data\":{\"cause\":14,\"index\":0,\"name\":\"p/A\"},\"message\":\"invalid params\"},\"id\":1,\"jsonrpc\":\"2.0\"}"
unfolding escape_byte digits
cyclic-row = refl

high-row : reply_text (Some (Number (pos 1))) (failure (change_refused (TooHigh 9))) ≡ codes "{\"error\":{\"code\":-32602,\"data\":{\"cause\":16,\"index\":0,\"number\":9},\"message\":\"invalid params\"},\"id\":1,\"jsonrpc\":\"2.0\"}"
unfolding escape_byte digits
high-row = refl

full-row : reply_text (Some (Number (pos 1))) (failure (change_refused JournalFull)) ≡ codes "{\"error\":{\"code\":-32602,\"data\":{\"cause\":17,\"index\":0},\"message\":\"invalid params\"},\"id\":1,\"jsonrpc\":\"2.0\"}"
unfolding escape_byte digits
full-row = refl

withdrawn-row : reply_text (Some (Number (pos 3))) (failure (version_withdrawn 5 2)) ≡ codes "{\"error\":{\"code\":-32801,\"data\":{\"number\":5,\"version\":2},\"message\":\"version withdrawn\"},\"id\":3,\"jsonrpc\":\"2.0\"}"
unfolding escape_byte digits
withdrawn-row = refl

read-row : reply_text (Some (Number (pos 3))) (failure (read_fault 1)) ≡ codes "{\"error\":{\"code\":-32803,\"data\":{\"index\":1},\"message\":\"read fault\"},\"id\":3,\"jsonrpc\":\"2.0\"}"
unfolding escape_byte digits
read-row = refl

-- A list whose least weight is 15 where no variable is in scope.
floors-row : (g : Parts) → reply_text (Some (Number (pos 2))) (result (certificate_data g (bounded (record { set = []; left = 1; goal = 1; floor = 15 } ∷ [])))) ≡ codes "{\"id\":2,\"jsonrpc\":\"2.0\",\"result\":{\"floor\":15,\"rows\":[[[],1,1,15]]}}"
unfolding escape_byte digits
floors-row g = refl
