-- The history of several clients: none of its changes is refused, and what is withdrawn stays so.
use Rattle.std.proofs.Common.{◌≡◌, ℕ, List, [], ◌∷◌, ◌++◌, length, sym, ◌∙◌, true, false, Bool, Option, None, Some, subst, append_assoc, append-nil}
use Rattle.std.specs.Prelude.{◌==◌, if◌then◌else◌}
use Rattle.std.specs.List.{AllByRecursion}
use Rattle.decl_index.specs.declared.change.Change.{Change}
use Rattle.decl_index.specs.declared.change.ChangeFault.{ChangeFault}
use Rattle.decl_index.specs.History.{first_withdrawal}
use Rattle.decl_index.specs.Refusals.{Refuses}
use Rattle.version_board.specs.Versions.{AreAllowed}
use Rattle.version_board.proofs.WithdrawalLaws.{newest_stands}
use Rattle.answers.specs.Cursors.{Lists}
use Rattle.answers.specs.Asks.{Ask, complete, page, close, explain, change, exit, other, Short, Enough, Lacking, Ending, Met, Answer, opened, turned, withdrawn, explained, accepted, refused, quiet, ended, changed, by_short, IsDecided, IsMetIf}
use Rattle.answers.specs.Turns.{next, change_of}
use Rattle.answers.specs.Sessions.{Seen}
use Rattle.answers.specs.Runs.{Message, turn_of, IsMet}
use Rattle.interleavings.specs.Clients.{Clients, Step, message, outside, begun, told, grown, answered, after_step, steps_from, MayMeet, AllMayCome, given_if, given_to, told_to, Bars}
use Rattle.interleavings.specs.Laws.{EveryHistory, EveryWithdrawal}
use Rattle.answers.proofs.Shapes.{Steps, shape}
use Rattle.answers.proofs.Withdrawn.{later, none_some, some_same}
use Rattle.interleavings.proofs.Clients.{step_begins, found}

-- One more change that isn't refused.
allowed_one : (before history : List Change) (c : Change) → AreAllowed before history → ((fault : ChangeFault) → Refuses (before ++ history) c fault → ⊥) → AreAllowed before (history ++ c ∷ [])
unfolding AreAllowed
allowed_one before [] c all one = (subst (λ xs. (fault : ChangeFault) → Refuses xs c fault → ⊥) (append-nil before) one, tt)
allowed_one before (d ∷ history) c all one = (all.0, allowed_one (before ++ d ∷ []) history c all.1 (subst (λ xs. (fault : ChangeFault) → Refuses xs c fault → ⊥) (sym (append_assoc before (d ∷ []) history)) one))

change_allowed : (o : Option ChangeFault) (history : List Change) (c : Change) (l : Lists) (m : Met) → AreAllowed [] history → IsDecided history c o → AreAllowed [] (grown history (c ∷ []) (changed l m o).1)
change_allowed None history c l m all one = allowed_one [] history c all one
change_allowed (Some f) history c l m all one = all

-- What is no change adds nothing.
nothing_made : (history : List Change) (a : Answer) → AreAllowed [] history → AreAllowed [] (grown history [] a)
nothing_made history (accepted v) all = subst (AreAllowed []) (sym (append-nil history)) all
nothing_made history (explained c x) all = all
nothing_made history (opened c p) all = all
nothing_made history (turned c p) all = all
nothing_made history (withdrawn k v n) all = all
nothing_made history (refused f) all = all
nothing_made history quiet all = all
nothing_made history ended all = all

ask_allowed : (x : Short) (history : List Change) (l : Lists) (ask : Ask) (m : Met) → m.at ≡ history → AreAllowed [] history → IsMetIf x l m ask → AreAllowed [] (grown history (change_of ask) (by_short x l ask m).1)
ask_allowed Enough history l (change c) m is all may = change_allowed m.fault history c l m all (subst (λ y. IsDecided y c m.fault) is may)
ask_allowed Lacking history l (change c) m is all may = all
ask_allowed Ending history l (change c) m is all may = all
ask_allowed x history l (complete hole count) m is all may = nothing_made history (by_short x l (complete hole count) m).1 all
ask_allowed x history l (page k count) m is all may = nothing_made history (by_short x l (page k count) m).1 all
ask_allowed x history l (close k) m is all may = nothing_made history (by_short x l (close k) m).1 all
ask_allowed x history l (explain k item) m is all may = nothing_made history (by_short x l (explain k item) m).1 all
ask_allowed x history l exit m is all may = nothing_made history (by_short x l exit m).1 all
ask_allowed x history l other m is all may = nothing_made history (by_short x l other m).1 all

message_allowed : (w : Clients) (i : ℕ) (m : Message) (o : Option Seen) → m.met.at ≡ w.history → AreAllowed [] w.history → MayMeet o m → AreAllowed [] (answered w i m o).history
message_allowed w i m None is all may = absurd may
message_allowed w i m (Some s) is all may = ask_allowed m.met.short w.history s.lists (turn_of s m).ask m.met is all may

allowed : (w : Clients) (es : List Step) → AreAllowed [] w.history → AllMayCome w es → AreAllowed [] (steps_from w es).history
unfolding AllMayCome steps_from
allowed w [] all may = all
allowed w (message i m ∷ es) all may = allowed (after_step w (message i m)) es (message_allowed w i m (w.sessions i) may.0.0 all may.0.1) may.1
allowed w (outside c ∷ es) all may = allowed (after_step w (outside c)) es (allowed_one [] w.history c all may.0.0) may.1

pub every_history : EveryHistory
every_history first steps all may = allowed (begun first) steps all may

-- The newest version of a history stands, so it is no withdrawn one.
not_newest : (history : List Change) (v n : ℕ) → AreAllowed [] history → first_withdrawal history v ≡ Some n → length history ≡ v → ⊥
not_newest history v n all gone is = none_some n (first_withdrawal history v) (subst (λ x. first_withdrawal history x ≡ None) is (newest_stands history all)) gone

bars : (v n : ℕ) (l t : Lists) (ask : Ask) (at : List Change) (a : Answer) → AreAllowed [] at → first_withdrawal at v ≡ Some n → Steps l ask at a t → Bars v n a
bars v n l t ask at (opened c p) all gone step = λ e. not_newest at v n all gone (sym step.version ∙ e)
bars v n l t ask at (turned c p) all gone step = λ e. none_some n (first_withdrawal at v) (subst (λ x. first_withdrawal at x ≡ None) e step.stands) gone
bars v n l t ask at (withdrawn k x m) all gone step = λ e. some_same m n (first_withdrawal at v) (subst (λ y. first_withdrawal at y ≡ Some m) (sym step.version ∙ e) step.gone) gone
bars v n l t ask at (explained c x) all gone step = tt
bars v n l t ask at (accepted x) all gone step = tt
bars v n l t ask at (refused f) all gone step = tt
bars v n l t ask at quiet all gone step = tt
bars v n l t ask at ended all gone step = tt

message_bars : (v n : ℕ) (s : Seen) (m : Message) (history : List Change) → m.met.at ≡ history → IsMet s m → AreAllowed [] history → first_withdrawal history v ≡ Some n → Bars v n (told s m)
message_bars v n s m history is met all gone =
    bars v n s.lists (next s.lists (turn_of s m)) (turn_of s m).ask m.met.at (told s m) (subst (AreAllowed []) (sym is) all) (subst (λ h. first_withdrawal h v ≡ Some n) (sym is) gone) (shape s.lists (turn_of s m) met)

barred_if : (b : Bool) (v n : ℕ) (s : Seen) (m : Message) (o : Option Seen) (more : List Answer) → o ≡ Some s → Bars v n (told s m) → AllByRecursion (Bars v n) more → AllByRecursion (Bars v n) ((if b then given_if told o m else []) ++ more)
barred_if false v n s m o more is one rest = rest
barred_if true v n s m o more is one rest = subst (λ y. AllByRecursion (Bars v n) (given_if told y m ++ more)) (sym is) (one, rest)

pub every_withdrawal : EveryWithdrawal
unfolding AllMayCome given_to
every_withdrawal w [] v n all may gone i = tt
every_withdrawal w (outside c ∷ es) v n all may gone i =
    every_withdrawal (after_step w (outside c)) es v n (allowed_one [] w.history c all may.0.0) may.1 (later w.history (after_step w (outside c)).history v n (step_begins w (outside c)) gone) i
every_withdrawal w (message j m ∷ es) v n all may gone i =
    let u : Clients = after_step w (message j m) in
    let who = found (w.sessions j) m may.0.1 in
    let rest = every_withdrawal u es v n (message_allowed w j m (w.sessions j) may.0.0 all may.0.1) may.1 (later w.history u.history v n (step_begins w (message j m)) gone) i in
    barred_if (i == j) v n who.0 m (w.sessions j) (told_to i u es) who.1 (message_bars v n who.0 m w.history may.0.0 who.2 all gone) rest
