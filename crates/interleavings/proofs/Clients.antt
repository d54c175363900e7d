-- What each client is told, over any steps of all.
use Rattle.std.proofs.Common.{◌≡◌, ◌≢◌, ℕ, List, [], ◌∷◌, ◌++◌, refl, sym, ap, ◌∙◌, true, false, Bool, Option, None, Some, subst, ⊎_elim}
use Rattle.std.specs.Prelude.{◌==◌, if◌then◌else◌}
use Rattle.std.specs.List.{AllByRecursion}
use Rattle.std.proofs.lemmas.Bool.Decides.{eqb_tells}
use Rattle.decl_index.specs.declared.change.Change.{Change}
use Rattle.answers.specs.Histories.{IsPrefix}
use Rattle.answers.specs.Cursors.{Lists}
use Rattle.answers.specs.Asks.{Answer, opened, turned, withdrawn, explained, accepted, refused, quiet, ended}
use Rattle.answers.specs.Turns.{Turn, answer, next, change_of, AllMet, Sees, AllSee}
use Rattle.answers.specs.Sessions.{Seen, start}
use Rattle.answers.specs.Messages.{Outcome}
use Rattle.answers.specs.Runs.{Message, outcome, session_after, ends, replies_to, turn_of, turns_of, IsMet}
use Rattle.interleavings.specs.Clients.{Clients, Step, message, outside, begun, told, grown, kept, answered, after_step, steps_from, MayMeet, AllMayCome, messages_of, given_if, given_to, outcomes_of}
use Rattle.interleavings.specs.Laws.{EveryInterleaving}
use Rattle.answers.proofs.Chains.{prefix_self, prefix_then, prefix_is}
use Rattle.answers.proofs.Headlines.{headline, lists_step}

pub grown_begins : (history made : List Change) (a : Answer) → IsPrefix history (grown history made a)
grown_begins history made (accepted v) = (made, refl)
grown_begins history made (explained c x) = prefix_self history
grown_begins history made (opened c p) = prefix_self history
grown_begins history made (turned c p) = prefix_self history
grown_begins history made (withdrawn k v n) = prefix_self history
grown_begins history made (refused f) = prefix_self history
grown_begins history made quiet = prefix_self history
grown_begins history made ended = prefix_self history

answered_begins : (w : Clients) (i : ℕ) (m : Message) (o : Option Seen) → IsPrefix w.history (answered w i m o).history
answered_begins w i m None = prefix_self w.history
answered_begins w i m (Some s) = grown_begins w.history (change_of (turn_of s m).ask) (told s m)

pub step_begins : (w : Clients) (e : Step) → IsPrefix w.history (after_step w e).history
step_begins w (message i m) = answered_begins w i m (w.sessions i)
step_begins w (outside c) = (c ∷ [], refl)

pub steps_begin : (w : Clients) (es : List Step) → IsPrefix w.history (steps_from w es).history
unfolding steps_from
steps_begin w [] = prefix_self w.history
steps_begin w (e ∷ es) = prefix_then w.history (after_step w e).history (steps_from (after_step w e) es).history (step_begins w e) (steps_begin (after_step w e) es)

-- Who had seen less sees as much.
sees_from : (a : Answer) (early known at made after : List Change) → IsPrefix early known → Sees known a at made after → Sees early a at made after
sees_from (opened c p) early known at made after l s = (s.0, prefix_then early known after l s.1)
sees_from (turned c p) early known at made after l s = (s.0, prefix_then early known after l s.1)
sees_from (withdrawn k v n) early known at made after l s = (s.0, prefix_then early known after l s.1)
sees_from (refused f) early known at made after l s = (s.0, prefix_then early known after l s.1)
sees_from (accepted v) early known at made after l s = (s.0, prefix_then early known after l s.1)
sees_from (explained c x) early known at made after l s = prefix_then early known after l s
sees_from quiet early known at made after l s = prefix_then early known after l s
sees_from ended early known at made after l s = prefix_then early known after l s

all_see_from : (early known : List Change) (l : Lists) (ts : List Turn) (end : List Change) → IsPrefix early known → AllSee known l ts end → AllSee early l ts end
unfolding AllSee
all_see_from early known l [] end less all = prefix_then early known end less all
all_see_from early known l (t ∷ ts) end less all = (all.0, sees_from (answer l t) early known t.met.at (change_of t.ask) all.0 less all.1, all.2)

-- A client sees the whole history at its step.
sees_all : (a : Answer) (history made after : List Change) → after ≡ grown history made a → Sees history a history made after
sees_all (opened c p) history made after is = (sym is, prefix_is history after (sym is))
sees_all (turned c p) history made after is = (sym is, prefix_is history after (sym is))
sees_all (withdrawn k v n) history made after is = (sym is, prefix_is history after (sym is))
sees_all (refused f) history made after is = (sym is, prefix_is history after (sym is))
sees_all (accepted v) history made after is = (prefix_is (history ++ made) after (sym is), (made, sym is))
sees_all (explained c x) history made after is = prefix_is history after (sym is)
sees_all quiet history made after is = prefix_is history after (sym is)
sees_all ended history made after is = prefix_is history after (sym is)

-- What holds of the messages of one session from a history on.
record Says (s : Seen) (ms : List Message) (os : List Outcome) (history end : List Change) : Type 0 where
  run : os ≡ replies_to s ms
  met : AllMet s.lists (turns_of s ms)
  sees : AllSee history s.lists (turns_of s ms) end
  begins : AllByRecursion (λ m. IsPrefix m.met.at end) ms

-- After its end a session has no message.
abbrev SaysOf : Option Seen → List Message → List Outcome → List Change → List Change → Type 0
SaysOf None ms os history end = (ms ≡ []) × (os ≡ [])
SaysOf (Some s) ms os history end = Says s ms os history end

says_nothing : (s : Seen) (history end : List Change) → IsPrefix history end → Says s [] [] history end
unfolding replies_to turns_of AllMet AllSee
says_nothing s history end less = record { run = refl; met = tt; sees = less; begins = tt }

-- The rest of a run after a message, whether that ended it or not.
record Rest (b : Bool) (s : Seen) (l : Lists) (ms : List Message) (os : List Outcome) (history end : List Change) : Type 0 where
  run : os ≡ (if b then [] else replies_to s ms)
  met : AllMet l (if b then [] else turns_of s ms)
  sees : AllSee history l (if b then [] else turns_of s ms) end
  begins : AllByRecursion (λ m. IsPrefix m.met.at end) ms

rest : (b : Bool) (s : Seen) (l : Lists) (ms : List Message) (os : List Outcome) (history end : List Change) → s.lists ≡ l → IsPrefix history end → SaysOf (if b then None else Some s) ms os history end → Rest b s l ms os history end
unfolding AllMet AllSee
rest true s l ms os history end is less so = record { run = so.1; met = tt; sees = less; begins = subst (AllByRecursion (λ m. IsPrefix m.met.at end)) (sym so.0) tt }
rest false s l ms os history end is less so = record {
  run = so.run;
  met = subst (λ x. AllMet x (turns_of s ms)) is so.met;
  sees = subst (λ x. AllSee history x (turns_of s ms) end) is so.sees;
  begins = so.begins;
}

-- The client's own message, and then the rest.
own : (s : Seen) (m : Message) (ms : List Message) (os : List Outcome) (history after end : List Change) → m.met.at ≡ history → IsMet s m → after ≡ grown history (change_of (turn_of s m).ask) (told s m)
    → IsPrefix history end → IsPrefix after end → SaysOf (kept (outcome s m) (session_after s m)) ms os after end → Says s (m ∷ ms) (outcome s m ∷ os) history end
unfolding replies_to turns_of AllMet AllSee
own s m ms os history after end at met is less later so =
    let r = rest (ends (outcome s m)) (session_after s m) (next s.lists (turn_of s m)) ms os after end (lists_step s m) later so in
    record {
      run = ap (λ xs. outcome s m ∷ xs) r.run;
      met = (met, r.met);
      sees = (after, subst (λ x. Sees history (told s m) x (change_of (turn_of s m).ask) after) (sym at) (sees_all (told s m) history (change_of (turn_of s m).ask) after is), r.sees);
      begins = (subst (λ x. IsPrefix x end) (sym at) less, r.begins);
    }

later_of : (o : Option Seen) (ms : List Message) (os : List Outcome) (early history end : List Change) → IsPrefix early history → SaysOf o ms os history end → SaysOf o ms os early end
later_of None ms os early history end less so = so
later_of (Some s) ms os early history end less so = record { run = so.run; met = so.met; sees = all_see_from early history s.lists (turns_of s ms) end less so.sees; begins = so.begins }

none_said : (o : Option Seen) (history end : List Change) → IsPrefix history end → SaysOf o [] [] history end
none_said None history end less = (refl, refl)
none_said (Some s) history end less = says_nothing s history end less

pub found : (o : Option Seen) (m : Message) → MayMeet o m → (s : Seen) × (o ≡ Some s) × IsMet s m
found None m may = absurd may
found (Some s) m may = (s, refl, may)

as_said : (o : Option Seen) (history end : List Change) (ms ns : List Message) (os ps : List Outcome) → ms ≡ ns → os ≡ ps → SaysOf o ns ps history end → SaysOf o ms os history end
as_said o history end ms ns os ps p q so = rw (p, q) so

-- A message of client j, where what follows is said of client i.
abbrev SaysAt : ℕ → Clients → List Step → Option Seen → Type 0
SaysAt i w es o = SaysOf o (messages_of i es) (outcomes_of i w es) w.history (steps_from w es).history

-- After a message of its own.
after_own : (i j : ℕ) (w : Clients) (m : Message) (es : List Step) (s : Seen) → (i == j) ≡ true → i ≡ j → w.sessions j ≡ Some s → m.met.at ≡ w.history → IsMet s m
    → SaysAt i (after_step w (message j m)) es (kept (outcome s m) (session_after s m)) → SaysAt i w (message j m ∷ es) (Some s)
unfolding messages_of given_to steps_from
after_own i j w m es s test same who at met so =
    let v : Clients = after_step w (message j m) in
    let end : List Change = (steps_from v es).history in
    let after : v.history ≡ grown w.history (change_of (turn_of s m).ask) (told s m) = ap (λ x. (answered w j m x).history) who in
    let later : IsPrefix v.history end = steps_begin v es in
    let less : IsPrefix w.history end = prefix_then w.history v.history end (step_begins w (message j m)) later in
    as_said (Some s) w.history end (messages_of i (message j m ∷ es)) (m ∷ messages_of i es) (outcomes_of i w (message j m ∷ es)) (outcome s m ∷ outcomes_of i v es)
    (ap (λ y. (if y then m ∷ [] else []) ++ messages_of i es) test)
    (ap (λ y. (if y then given_if outcome (w.sessions j) m else []) ++ outcomes_of i v es) test ∙ ap (λ y. given_if outcome y m ++ outcomes_of i v es) who)
    (own s m (messages_of i es) (outcomes_of i v es) w.history v.history end at met after less later so)

-- After a message of another client.
after_other : (i j : ℕ) (w : Clients) (m : Message) (es : List Step) (o : Option Seen) → (i == j) ≡ false → SaysAt i (after_step w (message j m)) es o → SaysAt i w (message j m ∷ es) o
unfolding messages_of given_to steps_from
after_other i j w m es o test so =
    let v : Clients = after_step w (message j m) in
    let end : List Change = (steps_from v es).history in
    as_said o w.history end (messages_of i (message j m ∷ es)) (messages_of i es) (outcomes_of i w (message j m ∷ es)) (outcomes_of i v es)
    (ap (λ y. (if y then m ∷ [] else []) ++ messages_of i es) test)
    (ap (λ y. (if y then given_if outcome (w.sessions j) m else []) ++ outcomes_of i v es) test)
    (later_of o (messages_of i es) (outcomes_of i v es) w.history v.history end (step_begins w (message j m)) so)

says : (i : ℕ) (w : Clients) (es : List Step) (o : Option Seen) → w.sessions i ≡ o → AllMayCome w es → SaysAt i w es o
unfolding messages_of given_to AllMayCome steps_from
says i w [] o is may = none_said o w.history w.history (prefix_self w.history)
says i w (outside c ∷ es) o is may =
    let v : Clients = after_step w (outside c) in
    later_of o (messages_of i es) (outcomes_of i v es) w.history v.history (steps_from v es).history (c ∷ [], refl) (says i v es o is may.1)
says i w (message j m ∷ es) o is may =
    let v : Clients = after_step w (message j m) in
    let who = found (w.sessions j) m may.0.1 in
    let s : Seen = who.0 in
    ⊎_elim
    (λ (x : ((i == j) ≡ true) × (i ≡ j)).
    let here : v.sessions i ≡ kept (outcome s m) (session_after s m) = ap (λ y. (answered w j m y).sessions i) who.1 ∙ ap (λ y. if y then kept (outcome s m) (session_after s m) else w.sessions i) x.0 in
    let mind : o ≡ Some s = sym is ∙ ap w.sessions x.1 ∙ who.1 in
    subst (λ y. SaysAt i w (message j m ∷ es) y) (sym mind) (after_own i j w m es s x.0 x.1 who.1 may.0.0 who.2 (says i v es (kept (outcome s m) (session_after s m)) here may.1)))
    (λ (x : ((i == j) ≡ false) × (i ≢ j)).
    let here : v.sessions i ≡ o = ap (λ y. (answered w j m y).sessions i) who.1 ∙ ap (λ y. if y then kept (outcome s m) (session_after s m) else w.sessions i) x.0 ∙ is in
    after_other i j w m es o x.0 (says i v es o here may.1))
    (eqb_tells i j)

pub every_interleaving : EveryInterleaving
every_interleaving first steps may i =
    let so : Says start (messages_of i steps) (outcomes_of i (begun first) steps) first (steps_from (begun first) steps).history = says i (begun first) steps (Some start) refl may in
    record {
      run = so.run;
      met = so.met;
      begins = so.begins;
      holds = headline first (steps_from (begun first) steps).history (messages_of i steps) (record { met = so.met; sees = so.sees });
    }
