-- One message in a session.
use Rattle.std.specs.Prelude.{◌≡◌, ℕ, List}
use Rattle.answers.specs.Asks.{Met, list_answer_to, IsMetBy}
use Rattle.answers.specs.Sessions.{Seen}
use Rattle.answers.specs.Messages.{Meaning, Outcome, meaning_of, files_in, ask_in, by_memory}
use Rattle.sessions.specs.Worlds.{WorldState}
use Rattle.sessions.specs.Loads.{IsLoaded}
use Rattle.sessions.specs.Questions.{Touches}

-- The session after a message of this meaning and its outcome are the answer to it, at what it met, which was lawful; and of the
-- world no more was met than the answer tells. Its files are loaded first.
pub record Answered (s : Seen) (meaning : Meaning) (next : Seen) (outcome : Outcome) (old new : WorldState) : Type 0 where
  pub met : Met
  pub faults : ℕ
  pub loads : IsLoaded met.short old.holds (files_in meaning) met.loads old.faults faults
  pub lawful : IsMetBy s.lists (ask_in meaning met.loads) met
  pub answer : by_memory met.short s meaning met ≡ (next, outcome)
  pub world : Touches met.short (ask_in meaning met.loads) (list_answer_to s.lists (ask_in meaning met.loads) met).1 met.at (record old { faults = faults }) new

-- The same of the message with this body.
abbrev pub Meets : Seen → List ℕ → Seen → Outcome → WorldState → WorldState → Type 0
Meets s body next outcome old new = Answered s (meaning_of s body) next outcome old new
