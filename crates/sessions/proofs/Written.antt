-- Replies hold no float, so their text is known.
use Rattle.std.proofs.Common.{◌≡◌, ◌∙◌, ap, refl, Bool, false, Option, Some, None, List, ℕ}
use Rattle.std.specs.Prelude.{pos, negsuc, map, ◌+◌, ◌∷◌, []}
use Rattle.serde_json.specs.Data.{Data}
use Rattle.serde_json.specs.View.{items_of}
use Rattle.serde_json.specs.Written.{has_float, items_have_float, compact_text}
use Rattle.decl_index.specs.declared.change.ChangeFault.TheVariants as change
use Rattle.json_rpc.specs.declared.message.Id.{Id}
use Rattle.json_rpc.specs.declared.message.Id.TheVariants.{Number, Text}
use Rattle.lsp_forms.specs.declared.forms.ItemForm.{ItemForm}
use Rattle.lsp_forms.specs.Results.{item_answers, range, list_answer}
use Rattle.answers.specs.declared.types.Cursor.{Cursor}
use Rattle.answers.specs.declared.types.Page.{Page}
use Rattle.answers.specs.Replies.{id_data, reply_data, result, failure, page_data, form_of}
use Rattle.sessions.specs.declared.failure.Failure as code
use Rattle.sessions.specs.declared.failure.Failure.TheVariants as variant
use Rattle.sessions.specs.Failing.{failure_of}

id_whole : (id : Option Id) → has_float (id_data id) ≡ false
id_whole None = refl
id_whole (Some (Number (pos n))) = refl
id_whole (Some (Number (negsuc n))) = refl
id_whole (Some (Text s)) = refl

result_whole : (id : Option Id) (d : Data) → has_float d ≡ false → has_float (reply_data id (result d)) ≡ false
result_whole id d e = rw (id_whole id, e) refl

failure_whole : (id : Option Id) (f : code.Failure) → has_float (reply_data id (failure (failure_of f))) ≡ false
failure_whole id variant.ParseError = rw (id_whole id) refl
failure_whole id variant.InvalidRequest = rw (id_whole id) refl
failure_whole id variant.UnknownMethod = rw (id_whole id) refl
failure_whole id variant.NotInitialized = rw (id_whole id) refl
failure_whole id (variant.InvalidParams cause index) = rw (id_whole id) refl
failure_whole id (variant.NoClass index class_fault place) = rw (id_whole id) refl
failure_whole id (variant.ChangeRefused (change.Cyclic name)) = rw (id_whole id) refl
failure_whole id (variant.ChangeRefused (change.Full parts)) = rw (id_whole id) refl
failure_whole id (variant.ChangeRefused (change.TooHigh through)) = rw (id_whole id) refl
failure_whole id (variant.ChangeRefused change.JournalFull) = rw (id_whole id) refl
failure_whole id (variant.ChangeRefused (change.NestCycle name)) = rw (id_whole id) refl
failure_whole id (variant.ChangeRefused change.OutOfMemory) = rw (id_whole id) refl
failure_whole id (variant.VersionWithdrawn number version) = rw (id_whole id) refl
failure_whole id (variant.ReadFault index) = rw (id_whole id) refl

-- The text of a reply with a result.
pub result_written : (id : Option Id) (d v : Data) (body : List ℕ) → has_float d ≡ false → v ≡ reply_data id (result d) → (has_float v ≡ false → body ≡ compact_text v) → body ≡ compact_text (reply_data id (result d))
result_written id d v body whole is told = told (ap has_float is ∙ result_whole id d whole) ∙ ap compact_text is

-- The text of a reply with an error.
pub failure_written : (id : Option Id) (f : code.Failure) (v : Data) (body : List ℕ) → v ≡ reply_data id (failure (failure_of f)) → (has_float v ≡ false → body ≡ compact_text v) → body ≡ compact_text (reply_data id (failure (failure_of f)))
failure_written id f v body is told = told (ap has_float is ∙ failure_whole id f) ∙ ap compact_text is

items_whole : (n : ℕ) (start end : ℕ × ℕ) (forms : List ItemForm) → items_have_float (items_of (item_answers n (range start end) forms)) ≡ false
unfolding item_answers
items_whole n start end [] = refl
items_whole n start end (form ∷ forms) = items_whole (n + 1) start end forms

-- A page holds no float.
pub list_whole : (cursor from grown : ℕ) (last : Bool) (version : ℕ) (forms : List ItemForm) (start end : ℕ × ℕ) → has_float (list_answer cursor from grown last version forms start end) ≡ false
list_whole cursor from grown last version forms start end = rw (items_whole from start end forms) refl

-- A page of a cursor holds none.
pub page_whole : (v : Data) (c : Cursor) (from : ℕ) (p : Page) → v ≡ page_data c from p → has_float v ≡ false
page_whole v c from p is = ap has_float is ∙ list_whole c.number from p.grown p.last c.version (map form_of p.items) c.start c.end

pub ruleset page = (page_whole, list_whole)
