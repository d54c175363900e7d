-- The first page of a new cursor.
use Rattle.std.specs.Prelude.{◌≡◌, ℕ, ◌+◌, List, length, Some}
use Rattle.std.specs.Str.{chars}
use Rattle.documents.specs.Places.{position_of}
use Rattle.java_bodies.specs.declared.site.HoleSite.{HoleSite}
use Rattle.json_rpc.specs.declared.message.Id.{Id}
use Rattle.answers.specs.declared.types.Page.{Page}
use Rattle.answers.specs.declared.types.Cursor.{Cursor}
use Rattle.answers.specs.Cursors.{Lists, IsPageOf, with_cursor}
use Rattle.answers.specs.Replies.{reply_text, result, page_data}

-- The cursor has the number after those made and the range of the site in the text, and has answered nothing.
pub record IsNewAt (made : ℕ) (text : List ℕ) (site : HoleSite) (c : Cursor) : Type 0 where
  pub number : c.number ≡ made + 1
  pub start : c.start ≡ position_of (chars text) site.prefix.0
  pub end : c.end ≡ position_of (chars text) site.prefix.1
  pub answered : c.answered ≡ 0

-- The cursor with a page answered.
abbrev pub answering : Cursor → Page → Cursor
answering c page = record c { answered = length page.items }

-- The cursor is kept with its first page answered, and the reply tells the page.
pub record Opens (l : Lists) (id : Id) (c : Cursor) (count : ℕ) (next : Lists) (reply : List ℕ) : Type 0 where
  pub page : Page
  pub is_page : IsPageOf c.env 0 count page
  pub lists : next ≡ with_cursor (answering c page) l
  pub told : reply ≡ reply_text (Some id) (result (page_data (answering c page) 0 page))
