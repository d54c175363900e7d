-- How a client that is served ends.
use Rattle.std.proofs.Common.{◌≡◌, ◌≤◌, ◌+◌, ℕ, arith, length, take, length-append, List, [], ◌∷◌, ◌++◌, refl, sym, ap, ◌∙◌, subst, Option, None, Some, append-nil}
use Rattle.std.specs.Prelude.{All}
use Rattle.std.specs.List.{flat_map}
use Rattle.std.specs.Io.KnownBytes.{Appends}
use Rattle.std.proofs.KnownBytes.{Appends-trans}
use Rattle.std.proofs.Math.Seq.{take-append-add}
use Rattle.std.proofs.lemmas.List.{map-append, flat_map_more}
use Rattle.decl_index.specs.declared.change.Change.{Change}
use Rattle.outside.specs.Gathered.{WrotePrefix}
use Rattle.json_rpc.specs.declared.fault.FrameFault.{FrameFault}
use Rattle.json_rpc.specs.declared.fault.FrameFault.TheVariants.{OutOfMemory}
use Rattle.json_rpc.specs.Streams.{Progress, Gives, Ends, Fails, budget}
use Rattle.json_rpc.specs.Whole.{Reads}
use Rattle.json_rpc.proofs.Inputs.{follows-more, follows-end, follows-fail, follows-first}
use Rattle.answers.specs.Turns.{answer, AllMet, AllSee}
use Rattle.answers.specs.Sessions.{Seen, start}
use Rattle.answers.specs.Messages.{Outcome, exited, lost}
use Rattle.answers.specs.Runs.{Message, outcome, session_after, turn_of, turns_of, replies_to, seen_after, Holds}
use Rattle.answers.proofs.Chains.{chains, prefix_self}
use Rattle.answers.proofs.Headlines.{headline}
use Rattle.sessions.specs.Worlds.{WorldState}
use Rattle.sessions.specs.declared.ending.Ending as ways
use Rattle.sessions.specs.declared.ending.Ending.TheVariants.{Exit, Input, Frames, Sink, Memory}
use Rattle.sessions.specs.Served.{bytes_of, GoesOn, bodies_in, Begins, ReadsBy, WritesBy, EndsWith, EndedBy, AllAdd, AllLoad, AllGrow, Serves}
use Rattle.sessions.specs.Serving.{Answers, Writes, IsServing, IsReading}
use Rattle.sessions.proofs.Touched.{touch_sees, touch_adds, touch_whole, touch_files}
use Rattle.sessions.proofs.Furthers.{turns_one, replies_one, after_one}

prefix_more : (a b c : Option (List ℕ)) (p q : List ℕ) → Appends a b p → WrotePrefix b c q → WrotePrefix a c (p ++ q)
prefix_more a b c p q h k = record {
  count = length p + k.count;
  within = omega (arith, length-append p q, k.within);
  wrote = subst (λ x. Appends a c x) (sym (take-append-add p q k.count)) (Appends-trans a b c p (take k.count q) h k.wrote);
}

begins_of : (input : Option (List ℕ)) (bodies : List (List ℕ)) → Reads input bodies (Some OutOfMemory) → Begins input bodies
begins_of None bodies h = tt
begins_of (Some bytes) bodies h = h

-- What a message that ended the session says of what was read, written and answered.
reads_by : (way : ways.Ending) (o : Outcome) (between after input : Option (List ℕ)) (bodies : List (List ℕ)) → Writes (Some way) o between after → Begins input bodies → ReadsBy way input bodies
reads_by (Exit b) o between after input bodies w h = h
reads_by Sink o between after input bodies w h = h
reads_by Memory o between after input bodies w h = h
reads_by Input o between after input bodies w h = absurd w
reads_by (Frames f) o between after input bodies w h = absurd w

nothing_more : (o p : Outcome) (before between after : Option (List ℕ)) (xs : List ℕ) → o ≡ p → bytes_of p ≡ [] → after ≡ between → Appends before between xs → Appends before after (xs ++ bytes_of o)
nothing_more o p before between after xs is none same h =
    let all : xs ++ bytes_of o ≡ xs = ap (λ y. xs ++ bytes_of y) is ∙ ap (λ y. xs ++ y) none ∙ append-nil xs in
    subst (λ y. Appends before y (xs ++ bytes_of o)) (sym same) (subst (Appends before between) (sym all) h)

writes_by : (way : ways.Ending) (o : Outcome) (before between after : Option (List ℕ)) (xs : List ℕ) → Writes (Some way) o between after → Appends before between xs → WritesBy way before after (xs ++ bytes_of o)
writes_by (Exit b) o before between after xs w h = nothing_more o (exited b) before between after xs w.0 refl w.1 h
writes_by Memory o before between after xs w h = nothing_more o lost before between after xs w.0 refl w.1 h
writes_by Sink o before between after xs w h = prefix_more before between after xs (bytes_of o) h w
writes_by Input o before between after xs w h = absurd w
writes_by (Frames f) o before between after xs w h = absurd w

ended_by : (way : ways.Ending) (o : Outcome) (between after : Option (List ℕ)) (os : List Outcome) → Writes (Some way) o between after → EndsWith os o → EndedBy way os
ended_by (Exit b) o between after os w h = subst (EndsWith os) w.0 h
ended_by Memory o between after os w h = subst (EndsWith os) w.0 h
ended_by Sink o between after os w h = (o, h)
ended_by Input o between after os w h = absurd w
ended_by (Frames f) o between after os w h = absurd w

holds_of : (s : Seen) (messages : List Message) (known end : List Change) → AllMet s.lists (turns_of s messages) → AllSee known s.lists (turns_of s messages) end → s ≡ start → Holds messages
holds_of s messages known end met sees is = headline known end messages (record {
  met = subst (λ (x : Seen). AllMet x.lists (turns_of x messages)) is met;
  sees = subst (λ (x : Seen). AllSee known x.lists (turns_of x messages) end) is sees;
})

module _ (s now next : Seen) (input before between after : Option (List ℕ)) (first old new : WorldState) (bodies : List (List ℕ)) (body : List ℕ) (way : ways.Ending) where
  -- The last message.
  finish : IsServing s now before between first old bodies → Answers now body next old new between after (Some way) → ReadsBy way input (bodies ++ body ∷ []) → Serves s next input before after first new way
  unfolding AllMet AllSee AllAdd AllLoad AllGrow
  finish h a read =
      let m : Message = record { body = body; met = a.meets.met } in
      let all : List Message = h.messages ++ m ∷ [] in
      let o : outcome now m ≡ a.outcome = ap (λ (r : Seen × Outcome). r.1) a.meets.answer in
      let n : session_after now m ≡ next = ap (λ (r : Seen × Outcome). r.0) a.meets.answer in
      let files : (new.holds ≡ old.holds) × (new.faults ≡ a.meets.faults) = touch_files m.met.short (turn_of now m).ask (answer now.lists (turn_of now m)) m.met.at (record old { faults = a.meets.faults }) new a.meets.world in
      let one : replies_to s all ≡ replies_to s h.messages ++ a.outcome ∷ [] =
      h.replies (m ∷ []) ∙ ap (λ x. replies_to s h.messages ++ x) (replies_one now m ∙ ap (λ x. x ∷ []) o) in
      let given : bodies_in all ≡ bodies ++ body ∷ [] = map-append (λ (x : Message). x.body) h.messages (m ∷ []) ∙ ap (λ x. x ++ body ∷ []) h.given in
      let lawful : AllMet s.lists (turns_of s all) = h.lawful (m ∷ []) (subst (AllMet now.lists) (sym (turns_one now m)) (a.meets.lawful, tt)) in
      let sees : AllSee first.known s.lists (turns_of s all) new.known = h.sees (m ∷ []) new.known (subst (λ ts. AllSee old.known now.lists ts new.known) (sym (turns_one now m))
      (new.known, touch_sees m.met.short (turn_of now m).ask now.lists m.met (record old { faults = a.meets.faults }) new a.meets.world, prefix_self new.known)) in
      record {
        messages = all;
        read = subst (ReadsBy way input) (sym given) read;
        written = subst (WritesBy way before after) (flat_map_more bytes_of [] (replies_to s h.messages) a.outcome ∙ sym (ap (flat_map bytes_of) one))
            (writes_by way a.outcome before between after (flat_map bytes_of (replies_to s h.messages)) a.writes h.written);
        ended_by = ended_by way a.outcome between after (replies_to s all) a.writes (record { before = replies_to s h.messages; go_on = h.go_on; is = one });
        session = sym (h.session (m ∷ []) ∙ after_one now m ∙ n);
        met = record {
          loads = h.loads (m ∷ []) new.faults (a.meets.faults, a.meets.loads, files.1);
          lawful = lawful;
          sees = sees;
          reads = h.reads (m ∷ []) new.reads (new.reads, touch_adds m.met.short (turn_of now m).ask (answer now.lists (turn_of now m)) m.met.at (record old { faults = a.meets.faults }) new a.meets.world, refl);
          whole = h.grows (m ∷ []) new.whole (touch_whole m.met.short (turn_of now m).ask now.lists m.met (record old { faults = a.meets.faults }) new a.meets.world);
          holds = files.0 ∙ h.holds;
        };
        chain = chains first.known s.lists (turns_of s all) new.known sees;
        holds = holds_of s all first.known new.known lawful sees;
      }

-- The last message, by which the session ended.
pub finishes : (s now next : Seen) (input left rest before between after : Option (List ℕ)) (reader later : Progress) (first old new : WorldState) (body : List ℕ) (way : ways.Ending)
    → IsReading s now input left before between reader first old → later.place + length later.held ≤ budget → Gives reader later left rest body
    → Answers now body next old new between after (Some way) → Serves s next input before after first new way
finishes s now next input left rest before between after reader later first old new body way h bound gives answered =
    finish s now next input before between after first old new h.bodies body way h.serving answered
    (reads_by way answered.outcome between after input (h.bodies ++ body ∷ []) answered.writes
    (begins_of input (h.bodies ++ body ∷ []) (follows-first later input rest (h.bodies ++ body ∷ []) (follows-more reader later input left rest h.bodies body h.follows bound gives))))

module _ (s now : Seen) (input left before after : Option (List ℕ)) (reader : Progress) (first old : WorldState) (way : ways.Ending) where
  -- No message more.
  stop : (h : IsReading s now input left before after reader first old) → ReadsBy way input h.bodies
      → ((xs : List ℕ) → Appends before after xs → WritesBy way before after xs) → ((os : List Outcome) → All GoesOn os → EndedBy way os) → Serves s now input before after first old way
  unfolding turns_of AllMet AllSee AllAdd AllLoad AllGrow replies_to seen_after
  stop h read written ended =
      let k : IsServing s now before after first old h.bodies = h.serving in
      let lawful : AllMet s.lists (turns_of s k.messages) = subst (λ x. AllMet s.lists (turns_of s x)) (append-nil k.messages) (k.lawful [] tt) in
      let sees : AllSee first.known s.lists (turns_of s k.messages) old.known = subst (λ x. AllSee first.known s.lists (turns_of s x) old.known) (append-nil k.messages) (k.sees [] old.known (prefix_self old.known)) in
      record {
        messages = k.messages;
        read = subst (ReadsBy way input) (sym k.given) read;
        written = written (flat_map bytes_of (replies_to s k.messages)) k.written;
        ended_by = ended (replies_to s k.messages) k.go_on;
        session = sym (ap (seen_after s) (sym (append-nil k.messages)) ∙ k.session []);
        met = record {
          loads = subst (λ x. AllLoad first.holds first.faults s x old.faults) (append-nil k.messages) (k.loads [] old.faults refl);
          lawful = lawful;
          sees = sees;
          reads = subst (λ x. AllAdd first.reads s x old.reads) (append-nil k.messages) (k.reads [] old.reads refl);
          whole = subst (λ x. AllGrow first.whole s x old.whole) (append-nil k.messages) (k.grows [] old.whole refl);
          holds = k.holds;
        };
        chain = chains first.known s.lists (turns_of s k.messages) old.known sees;
        holds = holds_of s k.messages first.known old.known lawful sees;
      }

-- The input ended.
pub at_end : (s now : Seen) (input left rest before after : Option (List ℕ)) (reader later : Progress) (first old : WorldState)
    → IsReading s now input left before after reader first old → Ends reader later left rest → Serves s now input before after first old Input
at_end s now input left rest before after reader later first old h ends =
    stop s now input left before after reader first old Input h (follows-end reader later input left rest h.bodies h.follows ends) (λ xs w. w) (λ os g. g)

-- The frames ended by a fault.
pub at_fault : (s now : Seen) (input left rest before after : Option (List ℕ)) (reader later : Progress) (first old : WorldState) (fault : FrameFault)
    → IsReading s now input left before after reader first old → later.place + length later.held ≤ budget → Fails reader later left rest fault → Serves s now input before after first old (Frames fault)
at_fault s now input left rest before after reader later first old fault h bound fails =
    stop s now input left before after reader first old (Frames fault) h (follows-fail reader later input left rest h.bodies fault h.follows bound fails) (λ xs w. w) (λ os g. g)

-- No further message was taken.
pub at_count : (s now : Seen) (input left before after : Option (List ℕ)) (reader : Progress) (first old : WorldState)
    → IsReading s now input left before after reader first old → Serves s now input before after first old (Frames OutOfMemory)
at_count s now input left before after reader first old h =
    stop s now input left before after reader first old (Frames OutOfMemory) h (follows-first reader input left h.bodies h.follows) (λ xs w. w) (λ os g. g)
