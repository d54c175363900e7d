-- What is known of the answers to a client.
use Rattle.std.specs.Prelude.{◌≡◌, ℕ, List, Option, Some}
use Rattle.decl_index.specs.declared.change.Change.{Change}
use Rattle.decl_index.specs.History.{first_withdrawal}
use Rattle.java_bodies.specs.declared.site.HoleSite.{HoleSite}
use Rattle.terms.specs.declared.parts.Parts.{Parts}
use Rattle.answers.specs.declared.types.Hole.{Hole}
use Rattle.answers.specs.Holes.{IsSite, IsEnvironmentIn}
use Rattle.answers.specs.Cursors.{Lists}
use Rattle.answers.specs.Turns.{Turn, answers_to, AllSee}
use Rattle.answers.specs.Told.{AllHeed, AllShut}
use Rattle.answers.specs.Sessions.{Seen}
use Rattle.answers.specs.Tells.{AllTell}
use Rattle.answers.specs.Runs.{Message, replies_to, turns_of, lists_after, seen_after, IsRun, Holds}

-- Whatever a client asks and meets lawfully, its answers hold.
abbrev pub Headline : Type 0
Headline = (known end : List Change) (messages : List Message) → IsRun known end messages → Holds messages

-- The lists of a session are those that its questions about lists leave.
abbrev pub ListsFollow : Type 0
ListsFollow = (s : Seen) (messages : List Message) → (seen_after s messages).lists ≡ lists_after s.lists (turns_of s messages)

-- Each outcome of a run tells what was answered about lists and versions, and nothing else of them.
abbrev pub RepliesTell : Type 0
RepliesTell = (s : Seen) (messages : List Message) → AllTell (answers_to s.lists (turns_of s messages)) (replies_to s messages)

-- A hole has one site, or none.
abbrev pub OneSite : Type 0
OneSite = (hole : Hole) (a b : Option HoleSite) → IsSite hole a → IsSite hole b → a ≡ b

-- The site of a hole has one environment in a version.
abbrev pub OneEnvironment : Type 0
OneEnvironment = (history : List Change) (hole : Hole) (site : HoleSite) (g h : Parts) → IsEnvironmentIn history hole site g → IsEnvironmentIn history hole site h → g ≡ h

-- Once a client has seen that the version of a list is withdrawn, no further page of it comes: each is refused with the
-- number of that withdrawal.
abbrev pub WithdrawnStays : Type 0
WithdrawnStays = (k v n : ℕ) (known end : List Change) (l : Lists) (turns : List Turn) → AllSee known l turns end → AllHeed k v l turns → first_withdrawal known v ≡ Some n → AllShut k n l turns
