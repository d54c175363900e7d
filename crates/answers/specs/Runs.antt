-- One client's run: the outcomes of its messages, and what holds of them.
use Rattle.std.specs.Prelude.{ℕ, List, [], ◌∷◌, Bool, true, false, if◌then◌else◌}
use Rattle.decl_index.specs.declared.change.Change.{Change}
use Rattle.answers.specs.Cursors.{Lists}
use Rattle.answers.specs.Asks.{Met, IsMetBy}
use Rattle.answers.specs.Turns.{Turn, next, answers_to, AllMet, AllSee, IsChain}
use Rattle.answers.specs.Told.{AllPaged}
use Rattle.answers.specs.Sessions.{Seen, start}
use Rattle.answers.specs.Messages.{Outcome, replied, no_memory, silent, exited, lost, meaning_of, ask_in, answer_to}

-- The body of a message and what it met.
pub record Message : Type 0 where
  pub body : List ℕ
  pub met : Met

-- Its outcome, and the session after it.
abbrev pub outcome : Seen → Message → Outcome
outcome s m = (answer_to s m.body m.met).1

abbrev pub session_after : Seen → Message → Seen
session_after s m = (answer_to s m.body m.met).0

-- Nothing is read after an exit or after an end for want of memory.
abbrev pub ends : Outcome → Bool
ends (replied body) = false
ends (no_memory id) = false
ends silent = false
ends (exited is_stopped) = true
ends lost = true

-- The outcomes of messages, one after the other, up to the one that ends the session.
unfoldable pub replies_to : Seen → List Message → List Outcome
replies_to s [] = []
replies_to s (m ∷ ms) = outcome s m ∷ (if ends (outcome s m) then [] else replies_to (session_after s m) ms)

-- What a message asks of lists and versions.
abbrev pub turn_of : Seen → Message → Turn
turn_of s m = record { ask = ask_in (meaning_of s m.body) m.met.loads; met = m.met }

-- What the messages of a run ask of lists and versions, up to the one that ends the session.
unfoldable pub turns_of : Seen → List Message → List Turn
turns_of s [] = []
turns_of s (m ∷ ms) = turn_of s m ∷ (if ends (outcome s m) then [] else turns_of (session_after s m) ms)

-- A message met what it may meet in the session.
abbrev pub IsMet : Seen → Message → Type 0
IsMet s m = IsMetBy s.lists (turn_of s m).ask m.met

-- The lists after questions about them.
unfoldable pub lists_after : Lists → List Turn → Lists
lists_after l [] = l
lists_after l (t ∷ ts) = lists_after (next l t) ts

-- The session after messages.
unfoldable pub seen_after : Seen → List Message → Seen
seen_after s [] = s
seen_after s (m ∷ ms) = if ends (outcome s m) then session_after s m else seen_after (session_after s m) ms

-- The messages of a new session met what they may, and what the client had seen only grew.
pub record IsRun (known end : List Change) (messages : List Message) : Type 0 where
  pub met : AllMet start.lists (turns_of start messages)
  pub sees : AllSee known start.lists (turns_of start messages) end

-- What holds of the answers to a client: what it met is a chain, and the pages of each of its lists, joined over the whole run,
-- are a prefix of the list of one environment in one version.
pub record Holds (messages : List Message) : Type 0 where
  pub chain : IsChain start.lists (turns_of start messages)
  pub pages : AllPaged (answers_to start.lists (turns_of start messages)) start.lists (turns_of start messages)
