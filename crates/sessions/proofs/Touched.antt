-- What a message met of the world says of what the client has seen, and of the reads.
use Rattle.std.proofs.Common.{◌≡◌, inl, inr, ⊎_elim, List, ◌∷◌, ◌++◌, [], length, sym, ap, ◌∙◌, Option, Some, None}
use Rattle.std.specs.Prelude.{option_map}
use Rattle.decl_index.specs.declared.change.Change.{Change}
use Rattle.answers.specs.Cursors.{Lists}
use Rattle.answers.specs.Asks.{Ask, complete, page, close, explain, change, exit, other, Short, Enough, Lacking, Ending, Met, Answer, opened, turned, withdrawn, explained, accepted, refused, quiet, ended, by_ask, by_short, lacking}
use Rattle.answers.specs.Turns.{change_of, Sees}
use Rattle.answers.proofs.Chains.{prefix_is}
use Rattle.sessions.specs.Worlds.{WorldState, IsRead, MayRead}
use Rattle.sessions.specs.Questions.{Leaves, MayLeave, Touches}
use Rattle.sessions.specs.Publications.{IsGrown}
use Rattle.sessions.specs.Served.{AddsRead, MayAddRead, MayAdd, AddsBy, whole_after}

leaves_sees : (a : Answer) (at made : List Change) (old new : WorldState) → Leaves a at made old new → Sees old.known a at made new.known
leaves_sees (opened c p) at made old new w = (w.0, w.1.later)
leaves_sees (turned c p) at made old new w = (w.0, w.1.later)
leaves_sees (withdrawn k v n) at made old new w = (w.0, w.1.later)
leaves_sees (accepted v) at made old new w = (w.stands, w.later)
leaves_sees (refused f) at made old new w = (w.0, w.2.later)
leaves_sees quiet at made old new w = prefix_is old.known new.known (ap (λ (x : WorldState). x.known) (sym w))
leaves_sees (explained c x) at made old new w = prefix_is old.known new.known (ap (λ (x : WorldState). x.known) (sym w))
leaves_sees ended at made old new w = prefix_is old.known new.known (ap (λ (x : WorldState). x.known) (sym w))

may_sees : (ask : Ask) (l : Lists) (at made : List Change) (old new : WorldState) → MayLeave ask old new → Sees old.known (lacking l ask).1 at made new.known
may_sees (complete hole count) l at made old new w = w.later
may_sees (page k count) l at made old new w = w.later
may_sees (close k) l at made old new w = prefix_is old.known new.known (ap (λ (x : WorldState). x.known) (sym w))
may_sees (explain k item) l at made old new w = prefix_is old.known new.known (ap (λ (x : WorldState). x.known) (sym w))
may_sees (change c) l at made old new w = w.later
may_sees exit l at made old new w = prefix_is old.known new.known (ap (λ (x : WorldState). x.known) (sym w))
may_sees other l at made old new w = prefix_is old.known new.known (ap (λ (x : WorldState). x.known) (sym w))

-- What the client has seen grew as the answer says.
pub touch_sees : (x : Short) (ask : Ask) (l : Lists) (m : Met) (old new : WorldState)
    → Touches x ask (by_short x l ask m).1 m.at old new → Sees old.known (by_short x l ask m).1 m.at (change_of ask) new.known
touch_sees Enough ask l m old new w = leaves_sees (by_ask l m ask).1 m.at (change_of ask) old new w
touch_sees Lacking ask l m old new w = may_sees ask l m.at (change_of ask) old new w
touch_sees Ending ask l m old new w = prefix_is old.known new.known (ap (λ (x : WorldState). x.known) (sym w))

read_adds : (at : List Change) (old new : WorldState) → (at ≡ new.known) × IsRead old new → new.reads ≡ old.reads ++ length at ∷ []
read_adds at old new w = rw w.0 w.1.entry

leaves_adds : (a : Answer) (at made : List Change) (old new : WorldState) → Leaves a at made old new → AddsRead a (length at) old.reads new.reads
leaves_adds (opened c p) at made old new w = read_adds at old new w
leaves_adds (turned c p) at made old new w = read_adds at old new w
leaves_adds (withdrawn k v n) at made old new w = read_adds at old new w
leaves_adds (accepted v) at made old new w = w.reads
leaves_adds (refused f) at made old new w = w.2.reads
leaves_adds quiet at made old new w = ap (λ (x : WorldState). x.reads) w
leaves_adds (explained c x) at made old new w = ap (λ (x : WorldState). x.reads) w
leaves_adds ended at made old new w = ap (λ (x : WorldState). x.reads) w

may_read_adds : (old new : WorldState) → MayRead old new → MayAddRead old.reads new.reads
may_read_adds old new w = ⊎_elim (λ e. inl e) (λ e. inr (length new.known, e)) w.entry

may_adds : (ask : Ask) (old new : WorldState) → MayLeave ask old new → MayAdd ask old.reads new.reads
may_adds (complete hole count) old new w = may_read_adds old new w
may_adds (page k count) old new w = may_read_adds old new w
may_adds (close k) old new w = ap (λ (x : WorldState). x.reads) w
may_adds (explain k item) old new w = ap (λ (x : WorldState). x.reads) w
may_adds (change c) old new w = w.reads
may_adds exit old new w = ap (λ (x : WorldState). x.reads) w
may_adds other old new w = ap (λ (x : WorldState). x.reads) w

-- Its reads grew as the answer says.
pub touch_adds : (x : Short) (ask : Ask) (a : Answer) (at : List Change) (old new : WorldState) → Touches x ask a at old new → AddsBy x ask a (length at) old.reads new.reads
touch_adds Enough ask a at old new w = leaves_adds a at (change_of ask) old new w
touch_adds Lacking ask a at old new w = may_adds ask old new w
touch_adds Ending ask a at old new w = ap (λ (x : WorldState). x.reads) w

grown_whole : (o : Option (List Change)) (at made known : List Change) (new : Option (List Change)) → IsGrown o at made new known → new ≡ option_map (λ history. history ++ made) o
grown_whole None at made known new g = g
grown_whole (Some whole) at made known new g = g.1 ∙ ap (λ h. Some (h ++ made)) g.0

leaves_whole : (a : Answer) (at made : List Change) (old new : WorldState) → Leaves a at made old new → new.whole ≡ whole_after old.whole a made
leaves_whole (opened c p) at made old new w = w.1.whole
leaves_whole (turned c p) at made old new w = w.1.whole
leaves_whole (withdrawn k v n) at made old new w = w.1.whole
leaves_whole (accepted v) at made old new w = grown_whole old.whole at made new.known new.whole w.grown
leaves_whole (refused f) at made old new w = w.2.whole
leaves_whole quiet at made old new w = ap (λ (x : WorldState). x.whole) w
leaves_whole (explained c x) at made old new w = ap (λ (x : WorldState). x.whole) w
leaves_whole ended at made old new w = ap (λ (x : WorldState). x.whole) w

may_whole : (ask : Ask) (l : Lists) (made : List Change) (old new : WorldState) → MayLeave ask old new → new.whole ≡ whole_after old.whole (lacking l ask).1 made
may_whole (complete hole count) l made old new w = w.whole
may_whole (page k count) l made old new w = w.whole
may_whole (close k) l made old new w = ap (λ (x : WorldState). x.whole) w
may_whole (explain k item) l made old new w = ap (λ (x : WorldState). x.whole) w
may_whole (change c) l made old new w = w.whole
may_whole exit l made old new w = ap (λ (x : WorldState). x.whole) w
may_whole other l made old new w = ap (λ (x : WorldState). x.whole) w

-- The whole history, where it is told, grew by an accepted change.
pub touch_whole : (x : Short) (ask : Ask) (l : Lists) (m : Met) (old new : WorldState)
    → Touches x ask (by_short x l ask m).1 m.at old new → new.whole ≡ whole_after old.whole (by_short x l ask m).1 (change_of ask)
touch_whole Enough ask l m old new w = leaves_whole (by_ask l m ask).1 m.at (change_of ask) old new w
touch_whole Lacking ask l m old new w = may_whole ask l (change_of ask) old new w
touch_whole Ending ask l m old new w = ap (λ (x : WorldState). x.whole) w

leaves_files : (a : Answer) (at made : List Change) (old new : WorldState) → Leaves a at made old new → (new.holds ≡ old.holds) × (new.faults ≡ old.faults)
leaves_files (opened c p) at made old new w = (w.1.holds, w.1.faults)
leaves_files (turned c p) at made old new w = (w.1.holds, w.1.faults)
leaves_files (withdrawn k v n) at made old new w = (w.1.holds, w.1.faults)
leaves_files (accepted v) at made old new w = (w.holds, w.faults)
leaves_files (refused f) at made old new w = (w.2.holds, w.2.faults)
leaves_files quiet at made old new w = (ap (λ (x : WorldState). x.holds) w, ap (λ (x : WorldState). x.faults) w)
leaves_files (explained c x) at made old new w = (ap (λ (x : WorldState). x.holds) w, ap (λ (x : WorldState). x.faults) w)
leaves_files ended at made old new w = (ap (λ (x : WorldState). x.holds) w, ap (λ (x : WorldState). x.faults) w)

may_files : (ask : Ask) (old new : WorldState) → MayLeave ask old new → (new.holds ≡ old.holds) × (new.faults ≡ old.faults)
may_files (complete hole count) old new w = (w.holds, w.faults)
may_files (page k count) old new w = (w.holds, w.faults)
may_files (close k) old new w = (ap (λ (x : WorldState). x.holds) w, ap (λ (x : WorldState). x.faults) w)
may_files (explain k item) old new w = (ap (λ (x : WorldState). x.holds) w, ap (λ (x : WorldState). x.faults) w)
may_files (change c) old new w = (w.holds, w.faults)
may_files exit old new w = (ap (λ (x : WorldState). x.holds) w, ap (λ (x : WorldState). x.faults) w)
may_files other old new w = (ap (λ (x : WorldState). x.holds) w, ap (λ (x : WorldState). x.faults) w)

-- The files stayed, and no load failed.
pub touch_files : (x : Short) (ask : Ask) (a : Answer) (at : List Change) (old new : WorldState) → Touches x ask a at old new → (new.holds ≡ old.holds) × (new.faults ≡ old.faults)
touch_files Enough ask a at old new w = leaves_files a at (change_of ask) old new w
touch_files Lacking ask a at old new w = may_files ask old new w
touch_files Ending ask a at old new w = (ap (λ (x : WorldState). x.holds) w, ap (λ (x : WorldState). x.faults) w)
