-- What is written: frames, and the reply for which there was no memory.
use Rattle.std.specs.Prelude.{ℕ, List, ◌++◌, length, codes, decimal, ◌≡◌, ◌≤◌, ◌-◌, take, drop, Option}
use Rattle.std.specs.Io.KnownBytes.{Appends}
use Rattle.std.specs.Fmt.{signed_decimal}
use Rattle.json.specs.Print.{escape, quoted}
use Rattle.json_rpc.specs.declared.message.Id.{Id}
use Rattle.json_rpc.specs.declared.message.Id.TheVariants.{Number, Text}
use Rattle.json_rpc.specs.declared.write.Piece.{Piece}
use Rattle.json_rpc.specs.declared.write.Piece.TheVariants.{Plain, Escaped}

-- What stands before the length, and before and behind the id of the reply below.
unfoldable pub length_mark : List ℕ
length_mark = codes "Content-Length: "

unfoldable pub before_id : List ℕ
before_id = codes "{\"error\":{\"code\":-32803,\"message\":\"no memory\"},\"id\":"

unfoldable pub after_id : List ℕ
after_id = codes ",\"jsonrpc\":\"2.0\"}"

-- The header part of a frame whose body has n bytes (LSP 3.17, "Header Part").
unfoldable pub head_of : ℕ → List ℕ
head_of n = length_mark ++ (decimal n ++ codes "\r\n\r\n")

-- The frame of a body.
unfoldable pub frame_of : List ℕ → List ℕ
frame_of body = head_of (length body) ++ body

-- The JSON of an id.
unfoldable pub id_text : Id → List ℕ
id_text (Number z) = signed_decimal z
id_text (Text s) = quoted s

-- The reply to a request for which there was no memory: the error -32803 of LSP 3.17, without data.
unfoldable pub no_memory_reply : Id → List ℕ
no_memory_reply id = before_id ++ (id_text id ++ after_id)

-- What is written of a piece.
abbrev pub piece_text : Piece → List ℕ
piece_text (Plain bytes) = bytes.now
piece_text (Escaped bytes) = escape bytes.now

-- What stands for the first `done` bytes of a text is written, and those from there up to i are a run that stands for itself.
pub record HasRun (start now : Option (List ℕ)) (bytes : List ℕ) (done i : ℕ) : Type 0 where
  pub order : done ≤ i
  pub wrote : Appends start now (escape (take done bytes))
  pub run : escape (take i bytes) ≡ escape (take done bytes) ++ take (i - done) (drop done bytes)
