-- Worked lists: which are kept, how they move on, and what a page tells.
use Rattle.std.proofs.Common.{◌≡◌, ℕ, zero, suc, List, [], ◌∷◌, Bool, true, false, refl, Some, None}
use Rattle.std.specs.Prelude.{codes, pos}
use Rattle.std.specs.Fmt.{digits}
use Rattle.json.specs.Print.{escape_byte}
use Rattle.decl_index.specs.declared.change.Change.{Change}
use Rattle.decl_index.specs.declared.change.Change.TheVariants.{Publish, Withdraw}
use Rattle.decl_index.specs.History.{first_withdrawal}
use Rattle.terms.specs.declared.parts.Parts.{Parts}
use Rattle.terms.specs.declared.term.Term.{Term}
use Rattle.listing.specs.declared.item.Item.{Item}
use Rattle.lsp_forms.specs.Results.{ten_digits, item_answers}
use Rattle.json_rpc.specs.declared.message.Id.TheVariants.{Number}
use Rattle.answers.specs.declared.types.Page.{Page}
use Rattle.answers.specs.declared.types.Cursor.{Cursor}
use Rattle.answers.specs.Cursors.{Lists, look, moved, without, with_cursor}
use Rattle.answers.specs.Asks.{page, Met, turned, withdrawn, quiet, turned_or, spelled_or, item_explained, is_used_up}
use Rattle.answers.specs.Replies.{reply_text, reply_of}

abbrev cursor : Parts → ℕ → ℕ → Cursor
cursor g k n = record { number = k; env = g; version = 3; start = (0, 4); end = (0, 6); answered = n }

-- So many cursors, the newest first.
down : Parts → ℕ → List Cursor
down g zero = []
down g (suc n) = cursor g (suc n) 0 ∷ down g n

abbrev one_more : Parts → Lists
one_more g = with_cursor (cursor g 65 0) (record { made = 64; cursors = down g 64 })

-- The 65th cursor takes the place of the oldest.
dropped-row : (g : Parts) → look 1 (one_more g).cursors ≡ None
unfolding look down
dropped-row g = refl

oldest-row : (g : Parts) → look 2 (one_more g).cursors ≡ Some (cursor g 2 0)
unfolding look down
oldest-row g = refl

newest-row : (g : Parts) → look 65 (one_more g).cursors ≡ Some (cursor g 65 0)
unfolding look down
newest-row g = refl

moved-row : (g : Parts) → look 3 (moved 3 20 (down g 5)) ≡ Some (cursor g 3 20)
unfolding look moved down
moved-row g = refl

closed-row : (g : Parts) → look 3 (without 3 (down g 5)) ≡ None
unfolding look without down
closed-row g = refl

others-row : (g : Parts) → look 4 (without 3 (down g 5)) ≡ Some (cursor g 4 0)
unfolding look without down
others-row g = refl

last-number-row : is_used_up (record { made = 4294967294; cursors = [] }) ≡ false
last-number-row = refl

used-up-row : is_used_up (record { made = 4294967295; cursors = [] }) ≡ true
used-up-row = refl

-- Three publications, and then a withdrawal of the versions up to 2.
abbrev changes : List Change
changes = Publish [] [] [] ∷ Publish [] [] [] ∷ Publish [] [] [] ∷ Withdraw 2 ∷ []

gone-row : first_withdrawal changes 2 ≡ Some 4
unfolding first_withdrawal
gone-row = refl

stands-row : first_withdrawal changes 3 ≡ None
unfolding first_withdrawal
stands-row = refl

refused-row : (l : Lists) (m : Met) (g : Parts) → turned_or l m (cursor g 1 20) (Some 4) ≡ (l, withdrawn 1 3 4)
refused-row l m g = refl

-- Of six items that were answered the last is explained, and none after it.
answered-row : (l : Lists) (m : Met) (g : Parts) → item_explained l m (cursor g 1 6) 5 ≡ spelled_or l (cursor g 1 6) m.term
unfolding item_explained
answered-row l m g = refl

unanswered-row : (l : Lists) (m : Met) (g : Parts) → item_explained l m (cursor g 1 6) 6 ≡ (l, quiet)
unfolding item_explained
unanswered-row l m g = refl

item : Term → Item
item t = record { weight = 12; text = codes "in.read()"; term = t }

page_row : Term → Bool → Page
page_row t last = record { items = item t ∷ []; last = last; grown = 5 }

-- The 21st item of a list, in the place of two bytes of the first line.
page-row : (g : Parts) (t : Term) (l : Lists) (m : Met) → reply_text (Some (Number (pos 2))) (reply_of l m (page 1 1) (turned (cursor g 1 20) (page_row t false)))
    ≡ codes "{\"id\":2,\"jsonrpc\":\"2.0\",\"result\":{\"insynth\":{\"cursor\":1,\"from\":20,\"grown\":5,\"last\":false,\"version\":3},\"isIncomplete\":true,\"items\":[{\"detail\":\"12\",\"label\":\"in.read()\",\"sortText\":\"0000000020\",\"textEdit\":{\"newText\":\"in.read()\",\"range\":{\"end\":{\"character\":6,\"line\":0},\"start\":{\"character\":4,\"line\":0}}}}]}}"
unfolding escape_byte digits ten_digits item_answers item page_row
page-row g t l m = refl

last-page-row : (g : Parts) (l : Lists) (m : Met) → reply_text (Some (Number (pos 2))) (reply_of l m (page 1 1) (turned (cursor g 1 20) (record { items = []; last = true; grown = 0 })))
    ≡ codes "{\"id\":2,\"jsonrpc\":\"2.0\",\"result\":{\"insynth\":{\"cursor\":1,\"from\":20,\"grown\":0,\"last\":true,\"version\":3},\"isIncomplete\":false,\"items\":[]}}"
unfolding escape_byte digits ten_digits item_answers
last-page-row g l m = refl
