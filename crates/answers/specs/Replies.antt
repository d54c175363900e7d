-- The bodies of replies (JSON-RPC 2.0, section 5): compact JSON with members in byte order.
use Rattle.std.specs.Prelude.{ℕ, ℤ, pos, negsuc, List, map, codes, Option, Some, None, if◌then◌else◌, is_some}
use Rattle.serde_json.specs.Data.{Data, null, number, unsigned, negative, string, object, Members, no_members, member}
use Rattle.serde_json.specs.Written.{compact_text}
use Rattle.json_rpc.specs.declared.message.Id.{Id}
use Rattle.json_rpc.specs.declared.message.Id.TheVariants.{Number, Text}
use Rattle.java_bodies.specs.declared.site.HoleSite.{HoleSite}
use Rattle.listing.specs.declared.item.Item.{Item}
use Rattle.lsp_forms.specs.declared.forms.ItemForm.{ItemForm}
use Rattle.lsp_forms.specs.Results.{list_answer, version_answer}
use Rattle.answers.specs.declared.types.Page.{Page}
use Rattle.answers.specs.declared.types.Cursor.{Cursor}
use Rattle.answers.specs.Failures.{Failure, invalid_params, change_refused, version_withdrawn, code_of, message_of, data_of}
use Rattle.answers.specs.Cursors.{Lists, look}
use Rattle.answers.specs.Certificates.{certificate_data}
use Rattle.answers.specs.Asks.{Ask, complete, page, close, explain, change, exit, other, Met, Answer, opened, turned, withdrawn, explained, accepted, refused, quiet, ended}

-- What a request is answered: a result or an error.
pub data Reply : Type 0 where
  result : Data → Reply
  failure : Failure → Reply

-- A whole number with sign as JSON.
abbrev pub signed_number : ℤ → Data
signed_number (pos n) = number (unsigned n)
signed_number (negsuc n) = number (negative (negsuc n))

-- An id as JSON; a message that shows none has the id null.
abbrev pub id_data : Option Id → Data
id_data None = null
id_data (Some (Number z)) = signed_number z
id_data (Some (Text s)) = string s

-- The version of the protocol, and what follows it.
abbrev pub version_then : Members → Members
version_then more = member (codes "jsonrpc") (string (codes "2.0")) more

-- The members of an error, with its data where it has any.
abbrev pub error_members : Failure → Option Data → Members
error_members f None = member (codes "code") (signed_number (code_of f)) (member (codes "message") (string (message_of f)) no_members)
error_members f (Some d) = member (codes "code") (signed_number (code_of f)) (member (codes "data") d (member (codes "message") (string (message_of f)) no_members))

-- A reply as JSON.
abbrev pub reply_data : Option Id → Reply → Data
reply_data id (result d) = object (member (codes "id") (id_data id) (version_then (member (codes "result") d no_members)))
reply_data id (failure f) = object (member (codes "error") (object (error_members f (data_of f))) (member (codes "id") (id_data id) (version_then no_members)))

-- The body of a reply.
abbrev pub reply_text : Option Id → Reply → List ℕ
reply_text id reply = compact_text (reply_data id reply)

-- An item as it is answered.
abbrev pub form_of : Item → ItemForm
form_of i = record { weight = i.weight; text = i.text }

-- A page of a cursor whose first item has the number `from`.
abbrev pub page_data : Cursor → ℕ → Page → Data
page_data c from p = list_answer c.number from p.grown p.last c.version (map form_of p.items) c.start c.end

-- A completion without a list: null where there is no hole, and cause 2 where all cursors were made.
abbrev pub without_list : Option HoleSite → Reply
without_list None = result null
without_list (Some site) = failure (invalid_params 2 0)

-- No explanation: cause 6 is for a cursor that isn't kept, 20 for an item that wasn't answered.
abbrev pub not_explained : Option Cursor → Reply
not_explained None = failure (invalid_params 6 0)
not_explained (Some c) = failure (invalid_params 20 0)

-- A question of which no list or version is told: cause 6 is for a cursor that isn't kept.
abbrev pub quiet_reply : Lists → Met → Ask → Reply
quiet_reply l m (complete hole count) = without_list m.site
quiet_reply l m (page k count) = failure (invalid_params 6 0)
quiet_reply l m (close k) = if is_some (look k l.cursors) then result null else failure (invalid_params 6 0)
quiet_reply l m (explain k item) = not_explained (look k l.cursors)
quiet_reply l m (change c) = result null
quiet_reply l m exit = result null
quiet_reply l m other = result null

-- The reply that tells an answer.
abbrev pub reply_of : Lists → Met → Ask → Answer → Reply
reply_of l m a (opened c p) = result (page_data c 0 p)
reply_of l m a (turned c p) = result (page_data c c.answered p)
reply_of l m a (withdrawn k v n) = failure (version_withdrawn n v)
reply_of l m a (explained c x) = result (certificate_data c.env x)
reply_of l m a (accepted v) = result (version_answer v)
reply_of l m a (refused fault) = failure (change_refused fault)
reply_of l m a quiet = quiet_reply l m a
reply_of l m a ended = quiet_reply l m a
