-- A client that is being served.
use Rattle.std.specs.Prelude.{◌≡◌, ℕ, List, ◌++◌, All, Option, Some, None}
use Rattle.std.specs.List.{flat_map}
use Rattle.std.specs.Io.KnownBytes.{Appends}
use Rattle.outside.specs.Gathered.{WrotePrefix}
use Rattle.decl_index.specs.declared.change.Change.{Change}
use Rattle.answers.specs.Turns.{AllMet, AllSee}
use Rattle.answers.specs.Sessions.{Seen}
use Rattle.answers.specs.Messages.{Outcome, exited, lost}
use Rattle.answers.specs.Runs.{Message, replies_to, turns_of, seen_after}
use Rattle.json_rpc.specs.Streams.{Progress}
use Rattle.json_rpc.specs.Whole.{Follows}
use Rattle.sessions.specs.Worlds.{WorldState}
use Rattle.sessions.specs.Meets.{Meets}
use Rattle.sessions.specs.declared.ending.Ending as ways
use Rattle.sessions.specs.declared.ending.Ending.TheVariants.{Exit, Input, Frames, Sink, Memory}
use Rattle.sessions.specs.Served.{bytes_of, GoesOn, bodies_in, AllAdd, AllLoad, AllGrow}

-- What was written of an outcome, and whether it ended the session.
abbrev pub Writes : Option ways.Ending → Outcome → Option (List ℕ) → Option (List ℕ) → Type 0
Writes None o before after = Appends before after (bytes_of o) × GoesOn o
Writes (Some Sink) o before after = WrotePrefix before after (bytes_of o)
Writes (Some (Exit is_stopped)) o before after = (o ≡ exited is_stopped) × (after ≡ before)
Writes (Some Memory) o before after = (o ≡ lost) × (after ≡ before)
Writes (Some Input) o before after = ⊥
Writes (Some (Frames fault)) o before after = ⊥

-- One message was answered.
pub record Answers (s : Seen) (body : List ℕ) (next : Seen) (old new : WorldState) (before after : Option (List ℕ)) (way : Option ways.Ending) : Type 0 where
  pub outcome : Outcome
  pub meets : Meets s body next outcome old new
  pub writes : Writes way outcome before after

-- The session so far: the messages answered, and what further ones would make of it.
pub record IsServing (s now : Seen) (before after : Option (List ℕ)) (old new : WorldState) (bodies : List (List ℕ)) : Type 0 where
  pub messages : List Message
  pub given : bodies_in messages ≡ bodies
  pub written : Appends before after (flat_map bytes_of (replies_to s messages))
  pub go_on : All GoesOn (replies_to s messages)
  pub replies : (ms : List Message) → replies_to s (messages ++ ms) ≡ replies_to s messages ++ replies_to now ms
  pub lawful : (ms : List Message) → AllMet now.lists (turns_of now ms) → AllMet s.lists (turns_of s (messages ++ ms))
  pub sees : (ms : List Message) (end : List Change) → AllSee new.known now.lists (turns_of now ms) end → AllSee old.known s.lists (turns_of s (messages ++ ms)) end
  pub reads : (ms : List Message) (end : List ℕ) → AllAdd new.reads now ms end → AllAdd old.reads s (messages ++ ms) end
  pub loads : (ms : List Message) (end : ℕ) → AllLoad new.holds new.faults now ms end → AllLoad old.holds old.faults s (messages ++ ms) end
  pub grows : (ms : List Message) (end : Option (List Change)) → AllGrow new.whole now ms end → AllGrow old.whole s (messages ++ ms) end
  pub session : (ms : List Message) → seen_after s (messages ++ ms) ≡ seen_after now ms
  pub holds : new.holds ≡ old.holds

-- The same with the frames that were read: those from where the reader stands complete the input.
pub record IsReading (s now : Seen) (input left before after : Option (List ℕ)) (reader : Progress) (old new : WorldState) : Type 0 where
  pub bodies : List (List ℕ)
  pub follows : Follows reader input left bodies
  pub going_on : reader.fault ≡ None
  pub serving : IsServing s now before after old new bodies
