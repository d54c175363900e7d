-- What a body is, by what `serde_json` answers.
use Rattle.std.proofs.Common.{◌≡◌, ap, List, ℕ, Option, Some, None, Bool, true, false, refl, IsUtf8, option_map, if◌then◌else◌}
use Rattle.std.proofs.lemmas.Str.{IsUtf8-from_is_utf8, is_utf8-from_IsUtf8}
use Rattle.std.specs.Str.{is_utf8}
use Rattle.serde_json.specs.Data.{Data}
use Rattle.serde_json.specs.Read.{read}
use Rattle.json_rpc.specs.Messages.{heard, message_of}

by_utf8 : (b : Bool) (r : Option Data) → (b ≡ true → r ≡ None) → (if b then option_map heard r else None) ≡ None
by_utf8 true r f = ap (option_map heard) (f refl)
by_utf8 false r f = refl

pub message-none : (body : List ℕ) → (IsUtf8 body → read body ≡ None) → message_of body ≡ None
unfolding message_of
message-none body f = by_utf8 (is_utf8 body) (read body) (λ b. f (IsUtf8-from_is_utf8 body b))

pub message-some : (body : List ℕ) (d : Data) → IsUtf8 body → read body ≡ Some d → message_of body ≡ Some (heard d)
unfolding message_of
message-some body d u e = rw (is_utf8-from_IsUtf8 body u, e) refl

pub ruleset bodies = (message-none, message-some)
