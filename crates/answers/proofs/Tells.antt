-- Each outcome of a run tells its answer, and nothing else of lists and versions.
use Rattle.std.proofs.Common.{◌≡◌, ℕ, Bool, true, false, List, [], ◌∷◌, refl, sym, subst, Option, None, Some, inl, inr}
use Rattle.std.specs.Prelude.{if◌then◌else◌, is_some, leb}
use Rattle.decl_index.specs.declared.change.Change.TheVariants.{Publish}
use Rattle.decl_index.specs.declared.change.ChangeFault.{ChangeFault}
use Rattle.decl_index.specs.History.{first_withdrawal}
use Rattle.java_bodies.specs.declared.site.HoleSite.{HoleSite}
use Rattle.serde_json.specs.Data.{null}
use Rattle.json_rpc.specs.declared.message.Id.{Id}
use Rattle.lsp_forms.specs.Results.{capabilities}
use Rattle.answers.specs.declared.types.Hole.{Hole}
use Rattle.answers.specs.declared.types.Cursor.{Cursor}
use Rattle.terms.specs.Expr.{Expr}
use Rattle.answers.specs.Failures.{invalid_params, no_class, read_fault}
use Rattle.answers.specs.Cursors.{Lists, look, with_cursor}
use Rattle.answers.specs.Asks.{Ask, complete, page, close, explain, change, exit, other, Short, Enough, Lacking, Ending, Met, Loaded, classes, missing, too_long, no_class_file, no_text, unreadable, Answer, opened, turned, withdrawn, explained, accepted, refused, quiet, ended, new_cursor, is_used_up, completed_at, completed, turned_or, paged, spelled_or, item_explained, explained_by, explained_in, changed, by_ask, by_short, lacking}
use Rattle.answers.specs.Turns.{answer, next, answers_to}
use Rattle.answers.specs.Sessions.{Seen}
use Rattle.answers.specs.Replies.{result, failure, reply_text, without_list, not_explained, quiet_reply, reply_of}
use Rattle.answers.specs.Messages.{Meaning, asks, publishes, says, lacks, starts, stops, edits, leaves, drops, replied, no_memory, meaning_of, ask_by, ask_in, published, by_memory}
use Rattle.answers.specs.Runs.{Message, outcome, session_after, ends, replies_to, turn_of, turns_of}
use Rattle.answers.specs.Tells.{IsPlain, Tells, AllTell}
use Rattle.answers.specs.Laws.{RepliesTell}
use Rattle.answers.proofs.Headlines.{lists_step}
use Rattle.answers.proofs.Meanings.{IsQuestion, CanBe, means}

plain_without : (site : Option HoleSite) → IsPlain (without_list site)
plain_without None = inl refl
plain_without (Some site) = tt

plain_close : (b : Bool) → IsPlain (if b then result null else failure (invalid_params 6 0))
plain_close true = inl refl
plain_close false = tt

plain_unexplained : (o : Option Cursor) → IsPlain (not_explained o)
plain_unexplained None = tt
plain_unexplained (Some c) = tt

plain_quiet : (l : Lists) (m : Met) (ask : Ask) → IsPlain (quiet_reply l m ask)
plain_quiet l m (complete hole count) = plain_without m.site
plain_quiet l m (page k count) = tt
plain_quiet l m (close k) = plain_close (is_some (look k l.cursors))
plain_quiet l m (explain k item) = plain_unexplained (look k l.cursors)
plain_quiet l m (change c) = inl refl
plain_quiet l m exit = inl refl
plain_quiet l m other = inl refl

-- The answer to a question is not the end of the session.
abbrev GoesOn : Answer → Type 0
GoesOn (opened c p) = Unit {0}
GoesOn (turned c p) = Unit {0}
GoesOn (withdrawn k v n) = Unit {0}
GoesOn (explained c x) = Unit {0}
GoesOn (accepted v) = Unit {0}
GoesOn (refused fault) = Unit {0}
GoesOn quiet = Unit {0}
GoesOn ended = ⊥

abbrev Continues : Lists × Answer → Type 0
Continues r = GoesOn r.1

on_opening : (b : Bool) (l : Lists) (c : Cursor) (m : Met) → Continues (if b then (l, quiet) else (with_cursor c l, opened c m.page))
on_opening true l c m = tt
on_opening false l c m = tt

on_completing : (l : Lists) (m : Met) (hole : Hole) (site : Option HoleSite) → GoesOn (completed l m hole site).1
unfolding completed_at
on_completing l m hole None = tt
on_completing l m hole (Some site) = on_opening (is_used_up l) l (new_cursor l m hole site) m

on_turning : (l : Lists) (m : Met) (c : Cursor) (o : Option ℕ) → GoesOn (turned_or l m c o).1
on_turning l m c None = tt
on_turning l m c (Some through) = tt

on_paging : (l : Lists) (m : Met) (o : Option Cursor) → GoesOn (paged l m o).1
on_paging l m None = tt
on_paging l m (Some c) = on_turning l m c (first_withdrawal m.at c.version)

on_spelling : (l : Lists) (c : Cursor) (o : Option Expr) → GoesOn (spelled_or l c o).1
on_spelling l c None = tt
on_spelling l c (Some term) = tt

on_item : (b : Bool) (l : Lists) (c : Cursor) (o : Option Expr) → Continues (if b then (l, quiet) else spelled_or l c o)
on_item true l c o = tt
on_item false l c o = on_spelling l c o

on_explaining : (l : Lists) (m : Met) (item : Option ℕ) (o : Option Cursor) → GoesOn (explained_in l m item o).1
unfolding item_explained
on_explaining l m item None = tt
on_explaining l m None (Some c) = tt
on_explaining l m (Some i) (Some c) = on_item (leb c.answered i) l c m.term

on_changing : (l : Lists) (m : Met) (o : Option ChangeFault) → GoesOn (changed l m o).1
on_changing l m None = tt
on_changing l m (Some fault) = tt

goes_on : (l : Lists) (m : Met) (ask : Ask) → IsQuestion ask → GoesOn (by_ask l m ask).1
goes_on l m (complete hole count) q = on_completing l m hole m.site
goes_on l m (page k count) q = on_paging l m (look k l.cursors)
goes_on l m (close k) q = tt
goes_on l m (explain k item) q = on_explaining l m item (look k l.cursors)
goes_on l m (change c) q = on_changing l m m.fault
goes_on l m exit q = absurd q
goes_on l m other q = absurd q

reply_tells : (l : Lists) (m : Met) (id : Id) (ask : Ask) (a : Answer) → GoesOn a → Tells a (replied (reply_text (Some id) (reply_of l m ask a)))
reply_tells l m id ask (opened c p) on = (id, refl)
reply_tells l m id ask (turned c p) on = (id, refl)
reply_tells l m id ask (withdrawn k v n) on = (id, refl)
reply_tells l m id ask (explained c x) on = (id, refl)
reply_tells l m id ask (accepted v) on = (id, refl)
reply_tells l m id ask (refused fault) on = (id, refl)
reply_tells l m id ask quiet on = record { id = Some id; reply = quiet_reply l m ask; is = refl; plain = plain_quiet l m ask }
reply_tells l m id ask ended on = absurd on

asks_tell : (x : Short) (l : Lists) (m : Met) (id : Id) (ask : Ask) → x ≡ Enough → IsQuestion ask → Tells (by_ask l m ask).1 (replied (reply_text (Some id) (reply_of l m ask (by_short x l ask m).1)))
asks_tell x l m id ask is q =
    subst (λ y. Tells (by_ask l m ask).1 (replied (reply_text (Some id) (reply_of l m ask (by_short y l ask m).1)))) (sym is)
    (reply_tells l m id ask (by_ask l m ask).1 (goes_on l m ask q))

published_tell : (o : Loaded) (s : Seen) (id : Id) (removes : List (List ℕ)) (counts : List (List ℕ × ℕ)) (m : Met) → m.short ≡ Enough
    → Tells (by_ask s.lists m (ask_by removes counts o)).1 (published s id removes counts m o).1
published_tell (classes puts) s id removes counts m is = asks_tell m.short s.lists m id (change (Publish puts removes counts)) is tt
published_tell (missing index) s id removes counts m is = record { id = Some id; reply = failure (invalid_params 9 index); is = refl; plain = tt }
published_tell (too_long index) s id removes counts m is = record { id = Some id; reply = failure (invalid_params 10 index); is = refl; plain = tt }
published_tell (no_class_file index class_fault place) s id removes counts m is = record { id = Some id; reply = failure (no_class index class_fault place); is = refl; plain = tt }
published_tell (no_text index) s id removes counts m is = record { id = Some id; reply = failure (invalid_params 21 index); is = refl; plain = tt }
published_tell (unreadable index) s id removes counts m is = record { id = Some id; reply = failure (read_fault index); is = refl; plain = tt }

-- Where memory is wanting nothing is told.
lacking_tell : (o : Loaded) (l : Lists) (id : Id) (removes : List (List ℕ)) (counts : List (List ℕ × ℕ)) → Tells (lacking l (ask_by removes counts o)).1 (no_memory id)
lacking_tell (classes puts) l id removes counts = tt
lacking_tell (missing index) l id removes counts = tt
lacking_tell (too_long index) l id removes counts = tt
lacking_tell (no_class_file index class_fault place) l id removes counts = tt
lacking_tell (no_text index) l id removes counts = tt
lacking_tell (unreadable index) l id removes counts = tt

tells_by : (x : Short) (s : Seen) (meaning : Meaning) (m : Met) → m.short ≡ x → CanBe meaning → Tells (by_short x s.lists (ask_in meaning m.loads) m).1 (by_memory x s meaning m).1
tells_by Ending s meaning m is can = tt
tells_by Enough s (asks id ask) m is can = asks_tell m.short s.lists m id ask is can
tells_by Enough s (publishes id files removes counts) m is can = published_tell m.loads s id removes counts m is
tells_by Enough s (says id reply) m is can = record { id = id; reply = reply; is = refl; plain = can }
tells_by Enough s (lacks id) m is can = tt
tells_by Enough s (starts id options) m is can = record { id = Some id; reply = result capabilities; is = refl; plain = inr refl }
tells_by Enough s (stops id) m is can = record { id = Some id; reply = result null; is = refl; plain = inl refl }
tells_by Enough s (edits uri edit) m is can = tt
tells_by Enough s leaves m is can = tt
tells_by Enough s drops m is can = tt
tells_by Lacking s (asks id (complete hole count)) m is can = tt
tells_by Lacking s (asks id (page k count)) m is can = tt
tells_by Lacking s (asks id (close k)) m is can = tt
tells_by Lacking s (asks id (explain k item)) m is can = tt
tells_by Lacking s (asks id (change c)) m is can = tt
tells_by Lacking s (asks id exit) m is can = absurd can
tells_by Lacking s (asks id other) m is can = absurd can
tells_by Lacking s (publishes id files removes counts) m is can = lacking_tell m.loads s.lists id removes counts
tells_by Lacking s (says None reply) m is can = tt
tells_by Lacking s (says (Some id) reply) m is can = tt
tells_by Lacking s (lacks id) m is can = tt
tells_by Lacking s (starts id options) m is can = tt
tells_by Lacking s (stops id) m is can = tt
tells_by Lacking s (edits uri edit) m is can = tt
tells_by Lacking s leaves m is can = tt
tells_by Lacking s drops m is can = tt

step_tells : (s : Seen) (m : Message) → Tells (answer s.lists (turn_of s m)) (outcome s m)
step_tells s m = tells_by m.met.short s (meaning_of s m.body) m.met refl (means s m.body)

-- Whether the run goes on or ends, the rest tells.
rest_tells : (b : Bool) (s : Seen) (ms : List Message) (l : Lists) → s.lists ≡ l → AllTell (answers_to s.lists (turns_of s ms)) (replies_to s ms)
    → AllTell (answers_to l (if b then [] else turns_of s ms)) (if b then [] else replies_to s ms)
unfolding answers_to AllTell
rest_tells true s ms l is rest = tt
rest_tells false s ms l is rest = subst (λ x. AllTell (answers_to x (turns_of s ms)) (replies_to s ms)) is rest

pub replies_tell : RepliesTell
unfolding answers_to turns_of replies_to AllTell
replies_tell s [] = tt
replies_tell s (m ∷ ms) = (step_tells s m, rest_tells (ends (outcome s m)) (session_after s m) ms (next s.lists (turn_of s m)) (lists_step s m) (replies_tell (session_after s m) ms))
