-- What serving one client leaves.
use Rattle.std.specs.Prelude.{◌≡◌, ◌⊎◌, ℕ, true, false, List, [], ◌∷◌, ◌++◌, map, length, All, Option, Some, None, option_map}
use Rattle.std.specs.List.{flat_map}
use Rattle.std.specs.Io.KnownBytes.{Appends}
use Rattle.outside.specs.Gathered.{WrotePrefix}
use Rattle.outside.specs.declared.shelf.HeldFile.{HeldFile}
use Rattle.json_rpc.specs.declared.fault.FrameFault.{FrameFault}
use Rattle.json_rpc.specs.declared.fault.FrameFault.TheVariants.{Header, NoLength, TooLong, Cut, ReadFault, Budget, OutOfMemory}
use Rattle.json_rpc.specs.Whole.{Reads, BeginFramesOf}
use Rattle.json_rpc.specs.Replies.{frame_of, no_memory_reply}
use Rattle.decl_index.specs.declared.change.Change.{Change}
use Rattle.answers.specs.Asks.{Ask, complete, page, close, explain, change, exit, other, Short, Enough, Lacking, Ending, Answer, opened, turned, withdrawn, explained, accepted, refused, quiet, ended}
use Rattle.answers.specs.Turns.{answer, change_of, AllMet, AllSee, IsChain}
use Rattle.answers.specs.Sessions.{Seen, start}
use Rattle.answers.specs.Messages.{Outcome, replied, no_memory, silent, exited, lost, meaning_of, files_in}
use Rattle.answers.specs.Runs.{Message, ends, replies_to, session_after, turn_of, turns_of, seen_after, Holds}
use Rattle.sessions.specs.Worlds.{WorldState}
use Rattle.sessions.specs.Loads.{IsLoaded}
use Rattle.sessions.specs.declared.ending.Ending as ways
use Rattle.sessions.specs.declared.ending.Ending.TheVariants.{Exit, Input, Frames, Sink, Memory}
use Rattle.sessions.specs.declared.ending.Ended.{Ended}

-- The bytes that tell an outcome: one frame for a reply, none for what isn't replied.
abbrev pub bytes_of : Outcome → List ℕ
bytes_of (replied body) = frame_of body
bytes_of (no_memory id) = frame_of (no_memory_reply id)
bytes_of silent = []
bytes_of (exited is_stopped) = []
bytes_of lost = []

-- The session goes on after an outcome.
abbrev pub GoesOn : Outcome → Type 0
GoesOn o = ends o ≡ false

-- The bodies of messages.
abbrev pub bodies_in : List Message → List (List ℕ)
bodies_in messages = map (λ (m : Message). m.body) messages

-- Frames of these bodies are the first of the input, where it is told.
abbrev pub Begins : Option (List ℕ) → List (List ℕ) → Type 0
Begins None bodies = Unit {0}
Begins (Some input) bodies = BeginFramesOf input bodies

-- What was read of the input: its frames up to its end or to the fault that ended them; where the session stopped before, the
-- first of them.
abbrev pub ReadsBy : ways.Ending → Option (List ℕ) → List (List ℕ) → Type 0
ReadsBy Input input bodies = Reads input bodies None
ReadsBy (Frames fault) input bodies = Reads input bodies (Some fault)
ReadsBy (Exit is_stopped) input bodies = Begins input bodies
ReadsBy Sink input bodies = Begins input bodies
ReadsBy Memory input bodies = Begins input bodies

-- Where a reply couldn't be written only a prefix of the bytes is there.
abbrev pub WritesBy : ways.Ending → Option (List ℕ) → Option (List ℕ) → List ℕ → Type 0
WritesBy Sink before after bytes = WrotePrefix before after bytes
WritesBy Input before after bytes = Appends before after bytes
WritesBy (Frames fault) before after bytes = Appends before after bytes
WritesBy (Exit is_stopped) before after bytes = Appends before after bytes
WritesBy Memory before after bytes = Appends before after bytes

-- The last of the outcomes is this one, and the session went on after those before it.
pub record EndsWith (outcomes : List Outcome) (last : Outcome) : Type 0 where
  pub before : List Outcome
  pub go_on : All GoesOn before
  pub is : outcomes ≡ before ++ last ∷ []

-- What an ending says of the outcomes: an exit and want of memory of the step are the last one; a reply that couldn't be written
-- is that of the last one; else none ended the session.
abbrev pub EndedBy : ways.Ending → List Outcome → Type 0
EndedBy (Exit is_stopped) outcomes = EndsWith outcomes (exited is_stopped)
EndedBy Memory outcomes = EndsWith outcomes lost
EndedBy Sink outcomes = (last : Outcome) × EndsWith outcomes last
EndedBy Input outcomes = All GoesOn outcomes
EndedBy (Frames fault) outcomes = All GoesOn outcomes

-- The status of a fault of frames: 3 with the place and the fault's number for one in the bytes, 4 for a failed read, 7 for the
-- budget, 6 for want of memory.
abbrev pub fault_status : FrameFault → Ended
fault_status (Header at) = record { code = 3; place = at; cause = 1 }
fault_status (NoLength at) = record { code = 3; place = at; cause = 2 }
fault_status (TooLong n) = record { code = 3; place = n; cause = 3 }
fault_status (Cut at) = record { code = 3; place = at; cause = 4 }
fault_status ReadFault = record { code = 4; place = 0; cause = 0 }
fault_status Budget = record { code = 7; place = 0; cause = 0 }
fault_status OutOfMemory = record { code = 6; place = 0; cause = 0 }

-- The status of an ending: 0 for an exit after `shutdown`, 1 for one without it and for the end of the input, 5 for a failed
-- write.
abbrev pub status_of : ways.Ending → Ended
status_of (Exit true) = record { code = 0; place = 0; cause = 0 }
status_of (Exit false) = record { code = 1; place = 0; cause = 0 }
status_of Input = record { code = 1; place = 0; cause = 0 }
status_of (Frames fault) = fault_status fault
status_of Sink = record { code = 5; place = 0; cause = 0 }
status_of Memory = record { code = 6; place = 0; cause = 0 }

-- What an answer adds to the lengths of the histories read: a page, or that its version is withdrawn, the length of the history at
-- which it was decided; any other nothing.
abbrev pub AddsRead : Answer → ℕ → List ℕ → List ℕ → Type 0
AddsRead (opened c p) n old new = new ≡ old ++ n ∷ []
AddsRead (turned c p) n old new = new ≡ old ++ n ∷ []
AddsRead (withdrawn k v through) n old new = new ≡ old ++ n ∷ []
AddsRead (explained c x) n old new = new ≡ old
AddsRead (accepted v) n old new = new ≡ old
AddsRead (refused fault) n old new = new ≡ old
AddsRead quiet n old new = new ≡ old
AddsRead ended n old new = new ≡ old

-- At most one entry more.
abbrev pub MayAddRead : List ℕ → List ℕ → Type 0
MayAddRead old new = (new ≡ old) ⊎ ((n : ℕ) × (new ≡ old ++ n ∷ []))

-- What a question for which memory was wanting adds: at most one entry, where it asks for a page.
abbrev pub MayAdd : Ask → List ℕ → List ℕ → Type 0
MayAdd (complete hole count) old new = MayAddRead old new
MayAdd (page k count) old new = MayAddRead old new
MayAdd (close k) old new = new ≡ old
MayAdd (explain k item) old new = new ≡ old
MayAdd (change c) old new = new ≡ old
MayAdd exit old new = new ≡ old
MayAdd other old new = new ≡ old

abbrev pub AddsBy : Short → Ask → Answer → ℕ → List ℕ → List ℕ → Type 0
AddsBy Enough ask a n old new = AddsRead a n old new
AddsBy Lacking ask a n old new = MayAdd ask old new
AddsBy Ending ask a n old new = new ≡ old

-- From the reads before messages to those after them.
unfoldable pub AllAdd : List ℕ → Seen → List Message → List ℕ → Type 0
AllAdd reads s [] end = end ≡ reads
AllAdd reads s (m ∷ ms) end = (mid : List ℕ) × AddsBy m.met.short (turn_of s m).ask (answer s.lists (turn_of s m)) (length m.met.at) reads mid × AllAdd mid (session_after s m) ms end

-- From the count of faults before messages to that after them: the files of each gave what it met.
unfoldable pub AllLoad : Option (List HeldFile) → ℕ → Seen → List Message → ℕ → Type 0
AllLoad holds count s [] end = end ≡ count
AllLoad holds count s (m ∷ ms) end = (mid : ℕ) × IsLoaded m.met.short holds (files_in (meaning_of s m.body)) m.met.loads count mid × AllLoad holds mid (session_after s m) ms end

-- The whole history after an answer, where it is told: an accepted change is added to it.
abbrev pub whole_after : Option (List Change) → Answer → List Change → Option (List Change)
whole_after whole (opened c p) made = whole
whole_after whole (turned c p) made = whole
whole_after whole (withdrawn k v through) made = whole
whole_after whole (explained c x) made = whole
whole_after whole (accepted v) made = option_map (λ history. history ++ made) whole
whole_after whole (refused fault) made = whole
whole_after whole quiet made = whole
whole_after whole ended made = whole

-- From the whole history before messages to that after them.
unfoldable pub AllGrow : Option (List Change) → Seen → List Message → Option (List Change) → Type 0
AllGrow whole s [] end = end ≡ whole
AllGrow whole s (m ∷ ms) end = AllGrow (whole_after whole (answer s.lists (turn_of s m)) (change_of (turn_of s m).ask)) (session_after s m) ms end

-- What of the world was met by messages: their files gave what each met, and each met what it may; what the client had seen only
-- grew, its reads by those of the answers, and the whole history, where it is told, by the accepted changes.
pub record AreMet (s : Seen) (messages : List Message) (old new : WorldState) : Type 0 where
  pub loads : AllLoad old.holds old.faults s messages new.faults
  pub lawful : AllMet s.lists (turns_of s messages)
  pub sees : AllSee old.known s.lists (turns_of s messages) new.known
  pub reads : AllAdd old.reads s messages new.reads
  pub whole : AllGrow old.whole s messages new.whole
  pub holds : new.holds ≡ old.holds

-- A client was served: its messages are the frames of the input, what was written are the frames of the replies in order, and
-- the session after it is that after the messages. What it met is a chain, and what holds of a new session's answers holds.
pub record Serves (s next : Seen) (input before after : Option (List ℕ)) (old new : WorldState) (way : ways.Ending) : Type 0 where
  pub messages : List Message
  pub read : ReadsBy way input (bodies_in messages)
  pub written : WritesBy way before after (flat_map bytes_of (replies_to s messages))
  pub ended_by : EndedBy way (replies_to s messages)
  pub session : next ≡ seen_after s messages
  pub met : AreMet s messages old new
  pub chain : IsChain s.lists (turns_of s messages)
  pub holds : s ≡ start → Holds messages

-- The status tells how its session ended.
pub record ServesWith (s next : Seen) (input before after : Option (List ℕ)) (old new : WorldState) (status : Ended) : Type 0 where
  pub way : ways.Ending
  pub serves : Serves s next input before after old new way
  pub told : status ≡ status_of way
