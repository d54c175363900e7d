-- How a client that is served goes on.
use Rattle.std.proofs.Common.{◌≡◌, ◌≤◌, ◌+◌, ℕ, length, true, false, List, [], ◌∷◌, ◌++◌, refl, sym, ap, ◌∙◌, subst, Option, None, append_assoc}
use Rattle.std.specs.Prelude.{if◌then◌else◌, All}
use Rattle.std.specs.List.{flat_map}
use Rattle.std.specs.Io.KnownBytes.{Appends}
use Rattle.std.proofs.KnownBytes.{Appends-nil, Appends-trans}
use Rattle.std.proofs.lemmas.List.{map-append, flat_map_more}
use Rattle.std.proofs.lemmas.List.Elements.{All-append, All-nil, All-cons}
use Rattle.decl_index.specs.declared.change.Change.{Change}
use Rattle.json_rpc.specs.Streams.{Progress, Gives, budget}
use Rattle.json_rpc.specs.Whole.{Follows}
use Rattle.json_rpc.proofs.Inputs.{follows-start, follows-more}
use Rattle.answers.specs.Turns.{answer, AllMet, AllSee, Sees, change_of}
use Rattle.answers.specs.Sessions.{Seen}
use Rattle.answers.specs.Messages.{Outcome}
use Rattle.answers.specs.Runs.{Message, ends, outcome, session_after, turn_of, turns_of, replies_to, seen_after, IsMet}
use Rattle.answers.proofs.Headlines.{lists_step}
use Rattle.sessions.specs.Worlds.{WorldState}
use Rattle.sessions.specs.Served.{bytes_of, GoesOn, AllAdd, AllLoad, AllGrow}
use Rattle.sessions.specs.Serving.{Answers, IsServing, IsReading}
use Rattle.sessions.proofs.Touched.{touch_sees, touch_adds, touch_whole, touch_files}

-- One message more, after which the session goes on.
turns_on : (now : Seen) (m : Message) (ms : List Message) → GoesOn (outcome now m) → turns_of now (m ∷ ms) ≡ turn_of now m ∷ turns_of (session_after now m) ms
unfolding turns_of
turns_on now m ms on = rw on refl

replies_on : (now : Seen) (m : Message) (ms : List Message) → GoesOn (outcome now m) → replies_to now (m ∷ ms) ≡ outcome now m ∷ replies_to (session_after now m) ms
unfolding replies_to
replies_on now m ms on = rw on refl

after_on : (now : Seen) (m : Message) (ms : List Message) → GoesOn (outcome now m) → seen_after now (m ∷ ms) ≡ seen_after (session_after now m) ms
unfolding seen_after
after_on now m ms on = rw on refl

-- The same of a last message, whether the session goes on after it or not.
pub turns_one : (now : Seen) (m : Message) → turns_of now (m ∷ []) ≡ turn_of now m ∷ []
unfolding turns_of
turns_one now m = elim (ends (outcome now m)) as (λ b. (turn_of now m ∷ (if b then [] else [])) ≡ (turn_of now m ∷ [])) [ true ↦ refl | false ↦ refl ]

pub replies_one : (now : Seen) (m : Message) → replies_to now (m ∷ []) ≡ outcome now m ∷ []
unfolding replies_to
replies_one now m = elim (ends (outcome now m)) as (λ b. (outcome now m ∷ (if b then [] else [])) ≡ (outcome now m ∷ [])) [ true ↦ refl | false ↦ refl ]

pub after_one : (now : Seen) (m : Message) → seen_after now (m ∷ []) ≡ session_after now m
unfolding seen_after
after_one now m = elim (ends (outcome now m)) as (λ b. (if b then session_after now m else session_after now m) ≡ session_after now m) [ true ↦ refl | false ↦ refl ]

met_on : (now next : Seen) (m : Message) (ms : List Message) → GoesOn (outcome now m) → session_after now m ≡ next → IsMet now m → AllMet next.lists (turns_of next ms) → AllMet now.lists (turns_of now (m ∷ ms))
unfolding AllMet
met_on now next m ms on is met rest =
    let here : AllMet (session_after now m).lists (turns_of (session_after now m) ms) = subst (λ (x : Seen). AllMet x.lists (turns_of x ms)) (sym is) rest in
    subst (AllMet now.lists) (sym (turns_on now m ms on)) (met, subst (λ l. AllMet l (turns_of (session_after now m) ms)) (lists_step now m) here)

sees_on : (now next : Seen) (m : Message) (ms : List Message) (known after end : List Change) → GoesOn (outcome now m) → session_after now m ≡ next
    → Sees known (answer now.lists (turn_of now m)) m.met.at (change_of (turn_of now m).ask) after → AllSee after next.lists (turns_of next ms) end → AllSee known now.lists (turns_of now (m ∷ ms)) end
unfolding AllSee
sees_on now next m ms known after end on is see rest =
    let here : AllSee after (session_after now m).lists (turns_of (session_after now m) ms) end = subst (λ (x : Seen). AllSee after x.lists (turns_of x ms) end) (sym is) rest in
    subst (λ ts. AllSee known now.lists ts end) (sym (turns_on now m ms on)) (after, see, subst (λ l. AllSee after l (turns_of (session_after now m) ms) end) (lists_step now m) here)

module _ (s now next : Seen) (before between after : Option (List ℕ)) (first old new : WorldState) (bodies : List (List ℕ)) (body : List ℕ) where
  -- One message is answered, and the session goes on.
  pub goes : IsServing s now before between first old bodies → Answers now body next old new between after None → IsServing s next before after first new (bodies ++ body ∷ [])
  unfolding AllAdd AllLoad AllGrow
  goes h a =
      let m : Message = record { body = body; met = a.meets.met } in
      let o : outcome now m ≡ a.outcome = ap (λ (r : Seen × Outcome). r.1) a.meets.answer in
      let n : session_after now m ≡ next = ap (λ (r : Seen × Outcome). r.0) a.meets.answer in
      let on : GoesOn (outcome now m) = ap ends o ∙ a.writes.1 in
      let files : (new.holds ≡ old.holds) × (new.faults ≡ a.meets.faults) = touch_files m.met.short (turn_of now m).ask (answer now.lists (turn_of now m)) m.met.at (record old { faults = a.meets.faults }) new a.meets.world in
      let one : replies_to s (h.messages ++ m ∷ []) ≡ replies_to s h.messages ++ a.outcome ∷ [] =
      h.replies (m ∷ []) ∙ ap (λ x. replies_to s h.messages ++ x) (replies_one now m ∙ ap (λ x. x ∷ []) o) in
      record {
        messages = h.messages ++ m ∷ [];
        given = map-append (λ (x : Message). x.body) h.messages (m ∷ []) ∙ ap (λ x. x ++ body ∷ []) h.given;
        written = subst (Appends before after) (flat_map_more bytes_of [] (replies_to s h.messages) a.outcome ∙ sym (ap (flat_map bytes_of) one))
            (Appends-trans before between after (flat_map bytes_of (replies_to s h.messages)) (bytes_of a.outcome) h.written a.writes.0);
        go_on = subst (All GoesOn) (sym one) (All-append GoesOn (replies_to s h.messages) (a.outcome ∷ []) h.go_on (All-cons GoesOn a.outcome [] a.writes.1 (All-nil GoesOn)));
        replies = λ ms.
            ap (replies_to s) (append_assoc h.messages (m ∷ []) ms) ∙ h.replies (m ∷ ms)
            ∙ ap (λ x. replies_to s h.messages ++ x) (replies_on now m ms on ∙ ap (λ x. x ∷ replies_to (session_after now m) ms) o ∙ ap (λ x. a.outcome ∷ replies_to x ms) n)
            ∙ sym (ap (λ x. x ++ replies_to next ms) one ∙ append_assoc (replies_to s h.messages) (a.outcome ∷ []) (replies_to next ms));
        lawful = λ ms law. subst (λ x. AllMet s.lists (turns_of s x)) (sym (append_assoc h.messages (m ∷ []) ms)) (h.lawful (m ∷ ms) (met_on now next m ms on n a.meets.lawful law));
        sees = λ ms end see. subst (λ x. AllSee first.known s.lists (turns_of s x) end) (sym (append_assoc h.messages (m ∷ []) ms))
            (h.sees (m ∷ ms) end (sees_on now next m ms old.known new.known end on n
            (touch_sees m.met.short (turn_of now m).ask now.lists m.met (record old { faults = a.meets.faults }) new a.meets.world) see));
        reads = λ ms end adds. subst (λ x. AllAdd first.reads s x end) (sym (append_assoc h.messages (m ∷ []) ms))
            (h.reads (m ∷ ms) end (
              new.reads,
              touch_adds m.met.short (turn_of now m).ask (answer now.lists (turn_of now m)) m.met.at (record old { faults = a.meets.faults }) new a.meets.world,
              subst (λ x. AllAdd new.reads x ms end) (sym n) adds,
            ));
        loads = λ ms end loads. subst (λ x. AllLoad first.holds first.faults s x end) (sym (append_assoc h.messages (m ∷ []) ms))
            (h.loads (m ∷ ms) end (a.meets.faults, a.meets.loads, subst (λ x. AllLoad old.holds a.meets.faults x ms end) (sym n) (subst (λ f. AllLoad old.holds f next ms end) files.1 (subst (λ x. AllLoad x new.faults next ms end) files.0 loads))));
        grows = λ ms end grows. subst (λ x. AllGrow first.whole s x end) (sym (append_assoc h.messages (m ∷ []) ms))
            (h.grows (m ∷ ms) end (subst (λ o. AllGrow o (session_after now m) ms end) (touch_whole m.met.short (turn_of now m).ask now.lists m.met (record old { faults = a.meets.faults }) new a.meets.world) (subst (λ x. AllGrow new.whole x ms end) (sym n) grows)));
        session = λ ms. ap (seen_after s) (append_assoc h.messages (m ∷ []) ms) ∙ h.session (m ∷ ms) ∙ after_on now m ms on ∙ ap (λ x. seen_after x ms) n;
        holds = files.0 ∙ h.holds;
      }

-- Nothing was read yet.
pub starts : (s : Seen) (input before : Option (List ℕ)) (reader : Progress) (w : WorldState) → reader ≡ record { place = 0; held = []; fault = None } → IsReading s s input input before before reader w w
unfolding replies_to AllAdd AllLoad AllGrow
starts s input before reader w is = record {
  bodies = [];
  follows = subst (λ x. Follows x input input []) (sym is) (follows-start input);
  going_on = ap (λ (x : Progress). x.fault) is;
  serving = record {
    messages = [];
    given = refl;
    written = Appends-nil before;
    go_on = All-nil GoesOn;
    replies = λ ms. refl;
    lawful = λ ms law. law;
    sees = λ ms end see. see;
    reads = λ ms end adds. adds;
    loads = λ ms end loads. loads;
    grows = λ ms end grows. grows;
    session = λ ms. refl;
    holds = refl;
  };
}

-- A frame was read, and its message answered.
pub reads_on : (s now next : Seen) (input left rest before between after : Option (List ℕ)) (reader later : Progress) (first old new : WorldState) (body : List ℕ)
    → IsReading s now input left before between reader first old → later.place + length later.held ≤ budget → Gives reader later left rest body
    → Answers now body next old new between after None → IsReading s next input rest before after later first new
reads_on s now next input left rest before between after reader later first old new body h bound gives answered = record {
  bodies = h.bodies ++ body ∷ [];
  follows = follows-more reader later input left rest h.bodies body h.follows bound gives;
  going_on = gives.fault;
  serving = goes s now next before between after first old new h.bodies body h.serving answered;
}

pub ruleset serving = (starts, reads_on)
