-- What holds of the answers to a client, from the answers about its lists.
use Rattle.std.proofs.Common.{◌≡◌, ℕ, Bool, true, false, List, [], ◌∷◌, refl, ap, ◌∙◌}
use Rattle.std.specs.Prelude.{if◌then◌else◌, Some, None}
use Rattle.decl_index.specs.declared.change.Change.TheVariants.{Publish}
use Rattle.json_rpc.specs.declared.message.Id.{Id}
use Rattle.answers.specs.Cursors.{Lists}
use Rattle.answers.specs.Asks.{Short, Enough, Lacking, Ending, Met, Loaded, classes, missing, too_long, no_class_file, no_text, unreadable, by_ask, by_short, lacking, complete, page, close, explain, change, exit, other}
use Rattle.answers.specs.Turns.{next}
use Rattle.answers.specs.Sessions.{Seen, start}
use Rattle.answers.specs.Messages.{Meaning, asks, publishes, says, lacks, starts, stops, edits, leaves, drops, meaning_of, ask_by, ask_in, published, by_memory}
use Rattle.answers.specs.Runs.{Message, outcome, session_after, ends, turn_of, turns_of, lists_after, seen_after}
use Rattle.answers.specs.Laws.{Headline, ListsFollow}
use Rattle.answers.proofs.Chains.{chains}
use Rattle.answers.proofs.Pages.{every_page}

pub headline : Headline
headline known end messages run = record { chain = chains known start.lists (turns_of start messages) end run.sees; pages = every_page (turns_of start messages) run.met }

-- A publication does so by what its files gave.
lists_published : (o : Loaded) (s : Seen) (id : Id) (removes : List (List ℕ)) (counts : List (List ℕ × ℕ)) (m : Met) → m.short ≡ Enough
    → (published s id removes counts m o).0.lists ≡ (by_ask s.lists m (ask_by removes counts o)).0
lists_published (classes puts) s id removes counts m is = ap (λ y. (by_short y s.lists (change (Publish puts removes counts)) m).0) is
lists_published (missing index) s id removes counts m is = refl
lists_published (too_long index) s id removes counts m is = refl
lists_published (no_class_file index class_fault place) s id removes counts m is = refl
lists_published (no_text index) s id removes counts m is = refl
lists_published (unreadable index) s id removes counts m is = refl

lists_kept : (o : Loaded) (l : Lists) (removes : List (List ℕ)) (counts : List (List ℕ × ℕ)) → l ≡ (lacking l (ask_by removes counts o)).0
lists_kept (classes puts) l removes counts = refl
lists_kept (missing index) l removes counts = refl
lists_kept (too_long index) l removes counts = refl
lists_kept (no_class_file index class_fault place) l removes counts = refl
lists_kept (no_text index) l removes counts = refl
lists_kept (unreadable index) l removes counts = refl

-- A step changes the lists as the question does.
lists_by : (x : Short) (s : Seen) (meaning : Meaning) (m : Met) → m.short ≡ x → (by_memory x s meaning m).0.lists ≡ (by_short x s.lists (ask_in meaning m.loads) m).0
lists_by Ending s meaning m is = refl
lists_by Enough s (asks id ask) m is = ap (λ y. (by_short y s.lists ask m).0) is
lists_by Enough s (publishes id files removes counts) m is = lists_published m.loads s id removes counts m is
lists_by Enough s (says id reply) m is = refl
lists_by Enough s (lacks id) m is = refl
lists_by Enough s (starts id options) m is = refl
lists_by Enough s (stops id) m is = refl
lists_by Enough s (edits uri edit) m is = refl
lists_by Enough s leaves m is = refl
lists_by Enough s drops m is = refl
lists_by Lacking s (asks id (complete hole count)) m is = refl
lists_by Lacking s (asks id (page k count)) m is = refl
lists_by Lacking s (asks id (close k)) m is = refl
lists_by Lacking s (asks id (explain k item)) m is = refl
lists_by Lacking s (asks id (change c)) m is = refl
lists_by Lacking s (asks id exit) m is = refl
lists_by Lacking s (asks id other) m is = refl
lists_by Lacking s (publishes id files removes counts) m is = lists_kept m.loads s.lists removes counts
lists_by Lacking s (says None reply) m is = refl
lists_by Lacking s (says (Some id) reply) m is = refl
lists_by Lacking s (lacks id) m is = refl
lists_by Lacking s (starts id options) m is = refl
lists_by Lacking s (stops id) m is = refl
lists_by Lacking s (edits uri edit) m is = refl
lists_by Lacking s leaves m is = refl
lists_by Lacking s drops m is = refl

pub lists_step : (s : Seen) (m : Message) → (session_after s m).lists ≡ next s.lists (turn_of s m)
lists_step s m = lists_by m.met.short s (meaning_of s m.body) m.met refl

-- Whether the run goes on or ends, the lists follow.
follow_if : (b : Bool) (s : Seen) (ms : List Message) (l : Lists) → s.lists ≡ l → (seen_after s ms).lists ≡ lists_after s.lists (turns_of s ms)
    → (if b then s else seen_after s ms).lists ≡ lists_after l (if b then [] else turns_of s ms)
unfolding lists_after
follow_if true s ms l is rest = is
follow_if false s ms l is rest = rest ∙ ap (λ x. lists_after x (turns_of s ms)) is

pub lists_follow : ListsFollow
unfolding seen_after lists_after turns_of
lists_follow s [] = refl
lists_follow s (m ∷ ms) = follow_if (ends (outcome s m)) (session_after s m) ms (next s.lists (turn_of s m)) (lists_step s m) (lists_follow (session_after s m) ms)
