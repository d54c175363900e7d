-- The replies that explain an item of a list, and a list.
use Rattle.std.specs.Prelude.{◌≡◌, ℕ, List, leb, false, Option, Some, None, if◌then◌else◌}
use Rattle.terms.specs.Expr.{Expr}
use Rattle.checker.specs.declared.floor.Floor.{Floor}
use Rattle.json_rpc.specs.declared.message.Id.{Id}
use Rattle.answers.specs.declared.types.Cursor.{Cursor}
use Rattle.answers.specs.Certificates.{spelled, bounded, IsItemAt, AreFloorsOf, certificate_data}
use Rattle.answers.specs.Failures.{invalid_params}
use Rattle.answers.specs.Replies.{Reply, result, failure, reply_text}

-- The item's term is told, or that the list has no such item.
abbrev pub spelled_reply : Cursor → Option Expr → Reply
spelled_reply c None = failure (invalid_params 20 0)
spelled_reply c (Some term) = result (certificate_data c.env (spelled term))

-- An item that wasn't answered isn't told.
unfoldable pub item_reply : Cursor → ℕ → Option Expr → Reply
item_reply c i term = if leb c.answered i then failure (invalid_params 20 0) else spelled_reply c term

-- The reply to a question for an item of a cursor, by the term at its place.
pub record IsItemTold (c : Cursor) (i : ℕ) (id : Id) (reply : List ℕ) : Type 0 where
  pub term : Option Expr
  pub there : leb c.answered i ≡ false → IsItemAt c.env i term
  pub told : reply ≡ reply_text (Some id) (item_reply c i term)

-- The reply to a question for a cursor's list, by floors.
pub record AreFloorsTold (c : Cursor) (id : Id) (reply : List ℕ) : Type 0 where
  pub floors : List Floor
  pub hold : AreFloorsOf c.env floors
  pub told : reply ≡ reply_text (Some id) (result (certificate_data c.env (bounded floors)))
