-- Several clients and one history: any list of their messages and of changes from outside.
use Rattle.std.specs.Prelude.{◌≡◌, ℕ, ◌==◌, if◌then◌else◌, List, [], ◌∷◌, ◌++◌, Option, Some, None}
use Rattle.std.specs.List.{AllByRecursion}
use Rattle.decl_index.specs.declared.change.Change.{Change}
use Rattle.decl_index.specs.declared.change.ChangeFault.{ChangeFault}
use Rattle.decl_index.specs.History.{KeepsRanges}
use Rattle.decl_index.specs.Refusals.{Refuses}
use Rattle.answers.specs.Histories.{IsPrefix}
use Rattle.answers.specs.Asks.{Answer, opened, turned, withdrawn, explained, accepted, refused, quiet, ended}
use Rattle.answers.specs.Turns.{answer, change_of, AllMet}
use Rattle.answers.specs.Sessions.{Seen, start}
use Rattle.answers.specs.Messages.{Outcome}
use Rattle.answers.specs.Runs.{Message, outcome, session_after, ends, replies_to, turn_of, turns_of, IsMet, Holds}

-- The history that is published, and the session of each client, none once it has ended.
pub record Clients : Type 0 where
  pub history : List Change
  pub sessions : ℕ → Option Seen

-- A message of one client, or a change that is published from outside.
pub data Step : Type 0 where
  message : (client : ℕ) (sent : Message) → Step
  outside : (made : Change) → Step

-- New sessions, and a history.
abbrev pub begun : List Change → Clients
begun first = record { history = first; sessions = λ i. Some start }

-- What is told of lists and versions to a message.
abbrev pub told : Seen → Message → Answer
told s m = answer s.lists (turn_of s m)

-- The history grows by an accepted change alone.
abbrev pub grown : List Change → List Change → Answer → List Change
grown history made (accepted v) = history ++ made
grown history made (explained c x) = history
grown history made (opened c p) = history
grown history made (turned c p) = history
grown history made (withdrawn k v n) = history
grown history made (refused fault) = history
grown history made quiet = history
grown history made ended = history

-- A session that goes on.
abbrev pub kept : Outcome → Seen → Option Seen
kept o s = if ends o then None else Some s

-- The sessions with this one as that of a client.
abbrev pub with_session : (ℕ → Option Seen) → ℕ → Option Seen → ℕ → Option Seen
with_session sessions i s j = if j == i then s else sessions j

abbrev pub answered : Clients → ℕ → Message → Option Seen → Clients
answered w i m None = w
answered w i m (Some s) = record {
  history = grown w.history (change_of (turn_of s m).ask) (told s m);
  sessions = with_session w.sessions i (kept (outcome s m) (session_after s m));
}

-- What a step leaves.
abbrev pub after_step : Clients → Step → Clients
after_step w (message i m) = answered w i m (w.sessions i)
after_step w (outside c) = record w { history = w.history ++ c ∷ [] }

unfoldable pub steps_from : Clients → List Step → Clients
steps_from w [] = w
steps_from w (e ∷ es) = steps_from (after_step w e) es

abbrev pub MayMeet : Option Seen → Message → Type 0
MayMeet None m = ⊥
MayMeet (Some s) m = IsMet s m

-- A client whose session hasn't ended may send any message, which is decided at the history and meets what it may; a
-- change that isn't refused may come from outside, with weights in their ranges where it sets them.
abbrev pub MayCome : Clients → Step → Type 0
MayCome w (message i m) = (m.met.at ≡ w.history) × MayMeet (w.sessions i) m
MayCome w (outside c) = ((fault : ChangeFault) → Refuses w.history c fault → ⊥) × KeepsRanges c

unfoldable pub AllMayCome : Clients → List Step → Type 0
AllMayCome w [] = Unit {0}
AllMayCome w (e ∷ es) = MayCome w e × AllMayCome (after_step w e) es

-- The messages of one client.
abbrev pub message_at : ℕ → Step → List Message
message_at i (message j m) = if i == j then m ∷ [] else []
message_at i (outside c) = []

unfoldable pub messages_of : ℕ → List Step → List Message
messages_of i [] = []
messages_of i (e ∷ es) = message_at i e ++ messages_of i es

-- What a client gets, of its outcomes or of what they tell.
abbrev pub given_if : {A : Type 0} → (Seen → Message → A) → Option Seen → Message → List A
given_if f None m = []
given_if f (Some s) m = f s m ∷ []

abbrev pub given_at : {A : Type 0} → (Seen → Message → A) → ℕ → Clients → Step → List A
given_at f i w (message j m) = if i == j then given_if f (w.sessions j) m else []
given_at f i w (outside c) = []

unfoldable pub given_to : {A : Type 0} → (Seen → Message → A) → ℕ → Clients → List Step → List A
given_to f i w [] = []
given_to f i w (e ∷ es) = given_at f i w e ++ given_to f i (after_step w e) es

-- The outcomes of a client's messages among the steps.
abbrev pub outcomes_of : ℕ → Clients → List Step → List Outcome
outcomes_of i w steps = given_to outcome i w steps

-- What a client is told among the steps.
abbrev pub told_to : ℕ → Clients → List Step → List Answer
told_to i w steps = given_to told i w steps

-- What holds of one client: its outcomes are those of its own messages, each of which met what it may at the beginning of the
-- history that the steps leave, and its answers hold.
pub record IsServed (first : List Change) (steps : List Step) (i : ℕ) : Type 0 where
  pub run : outcomes_of i (begun first) steps ≡ replies_to start (messages_of i steps)
  pub met : AllMet start.lists (turns_of start (messages_of i steps))
  pub begins : AllByRecursion (λ m. IsPrefix m.met.at (steps_from (begun first) steps).history) (messages_of i steps)
  pub holds : Holds (messages_of i steps)

-- No page of a version is told, and each refusal of one names this withdrawal.
abbrev pub Bars : ℕ → ℕ → Answer → Type 0
Bars v n (opened c p) = c.version ≡ v → ⊥
Bars v n (turned c p) = c.version ≡ v → ⊥
Bars v n (withdrawn k x m) = x ≡ v → m ≡ n
Bars v n (explained c x) = Unit {0}
Bars v n (accepted x) = Unit {0}
Bars v n (refused fault) = Unit {0}
Bars v n quiet = Unit {0}
Bars v n ended = Unit {0}
