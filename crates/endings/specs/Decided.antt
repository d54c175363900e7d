-- What an input says of its reading, and of the status of its session.
use Rattle.std.specs.Prelude.{◌≡◌, ◌⊎◌, ℕ, true, false, List, [], ◌∷◌, ◌++◌, All, length, slice_get, Option, Some, None, Ok, codes}
use Rattle.serde_json.specs.Data.{Data, null}
use Rattle.json_rpc.specs.declared.message.Id.{Id}
use Rattle.json_rpc.specs.Messages.{request, message_of}
use Rattle.json_rpc.specs.declared.fault.FrameFault.{FrameFault}
use Rattle.json_rpc.specs.Whole.{AreFramesOf, BeginFramesOf}
use Rattle.lsp_forms.specs.declared.forms.Initialize.{Initialize}
use Rattle.lsp_forms.specs.Forms.{initialize_of}
use Rattle.answers.specs.Sessions.{Seen}
use Rattle.answers.specs.declared.types.Phase.TheVariants.{Running, Stopped}
use Rattle.answers.specs.Asks.{Enough}
use Rattle.answers.specs.Replies.{result, reply_text}
use Rattle.answers.specs.Messages.{Outcome, no_memory, leaves, stops, meaning_of, is_stopped, replied}
use Rattle.answers.specs.Runs.{Message, outcome, replies_to, session_after, seen_after}
use Rattle.sessions.specs.Worlds.{WorldState}
use Rattle.sessions.specs.declared.ending.Ended.{Ended}
use Rattle.sessions.specs.declared.ending.Ending.TheVariants.{Exit}
use Rattle.sessions.specs.Served.{ServesWith, status_of, fault_status}

-- The frames of an input and how they end are one.
abbrev pub OneReading : Type 0
OneReading = (input : List ℕ) (bodies others : List (List ℕ)) (end ending : Option FrameFault) → AreFramesOf input bodies end → AreFramesOf input others ending
    → (bodies ≡ others) × (end ≡ ending)

-- Frames that an input begins with are the first of all its frames.
abbrev pub FirstOfAll : Type 0
FirstOfAll = (input : List ℕ) (bodies firsts : List (List ℕ)) (end : Option FrameFault) → AreFramesOf input bodies end → BeginFramesOf input firsts
    → (more : List (List ℕ)) × (bodies ≡ firsts ++ more)

-- A body that is an `exit`, whatever the session, and one that is none.
abbrev pub IsExit : List ℕ → Type 0
IsExit body = (s : Seen) → meaning_of s body ≡ leaves

abbrev pub IsNoExit : List ℕ → Type 0
IsNoExit body = (s : Seen) → meaning_of s body ≡ leaves → ⊥

-- A body that is no `shutdown`, whatever the session.
abbrev pub IsNoShutdown : List ℕ → Type 0
IsNoShutdown body = (s : Seen) (id : Id) → meaning_of s body ≡ stops id → ⊥

-- A failed read or write, or want of memory, ended the session.
abbrev pub IsOutside : Ended → Type 0
IsOutside ended = (ended.code ≡ 4) ⊎ ((ended.code ≡ 5) ⊎ (ended.code ≡ 6))

-- The status where all frames are read: 1 where the input ends after them, else that of the fault that ends them.
abbrev pub end_status : Option FrameFault → Ended
end_status None = record { code = 1; place = 0; cause = 0 }
end_status (Some fault) = fault_status fault

-- Over an input without an `exit` the status is that of the end of its frames: 1, or 3 with the place and the number of the first
-- violation, or 7.
abbrev pub FramesDecide : Type 0
FramesDecide = (s next : Seen) (input : List ℕ) (before after : Option (List ℕ)) (old new : WorldState) (ended : Ended) (bodies : List (List ℕ)) (end : Option FrameFault)
    → ServesWith s next (Some input) before after old new ended → AreFramesOf input bodies end → All IsNoExit bodies
    → IsOutside ended ⊎ (ended ≡ end_status end)

-- Over an input with an `exit` the status is 0 where the session was stopped by then, which a `shutdown` does that is answered
-- null, else 1.
abbrev pub ExitDecides : Type 0
ExitDecides = (s next : Seen) (input : List ℕ) (before after : Option (List ℕ)) (old new : WorldState) (ended : Ended) (bodies : List (List ℕ)) (body : List ℕ)
    → ServesWith s next (Some input) before after old new ended → BeginFramesOf input (bodies ++ body ∷ []) → IsExit body
    → IsOutside ended ⊎ (ended ≡ status_of (Exit (is_stopped next.phase)))

-- Nothing that comes after starts a stopped session again.
abbrev pub StoppedStays : Type 0
StoppedStays = (s : Seen) (messages : List Message) → s.phase ≡ Stopped → (seen_after s messages).phase ≡ Stopped

-- A `shutdown` between `initialize` and another `shutdown` stops the session, where memory isn't wanting, and is answered null.
abbrev pub ShutdownStops : Type 0
ShutdownStops = (s : Seen) (m : Message) (id : Id) (params : Data) → s.phase ≡ Running → message_of m.body ≡ Some (request id (codes "shutdown") params) → m.met.short ≡ Enough
    → ((session_after s m).phase ≡ Stopped) × (outcome s m ≡ replied (reply_text (Some id) (result null)))

-- Over an input with an `exit` and no `shutdown` before it the status is 1, unless the session was stopped at its beginning.
abbrev pub ExitAloneFails : Type 0
ExitAloneFails = (s next : Seen) (input : List ℕ) (before after : Option (List ℕ)) (old new : WorldState) (ended : Ended) (bodies : List (List ℕ)) (body : List ℕ)
    → (s.phase ≡ Stopped → ⊥) → ServesWith s next (Some input) before after old new ended → BeginFramesOf input (bodies ++ body ∷ []) → All IsNoShutdown bodies → IsExit body
    → IsOutside ended ⊎ (ended ≡ status_of (Exit false))

-- Among bodies there are an `initialize` whose parameters are well formed, and a `shutdown` behind it; these are their ids.
pub record ShutsDown (bodies : List (List ℕ)) (hello stop : Id) : Type 0 where
  pub before : List (List ℕ)
  pub opening : List ℕ
  pub between : List (List ℕ)
  pub closing : List ℕ
  pub after : List (List ℕ)
  pub are : bodies ≡ before ++ opening ∷ (between ++ closing ∷ after)
  pub params : Data
  pub options : Initialize
  pub opens : message_of opening ≡ Some (request hello (codes "initialize") params)
  pub well_formed : initialize_of params ≡ Ok options
  pub last_params : Data
  pub closes : message_of closing ≡ Some (request stop (codes "shutdown") last_params)

-- Of these outcomes that of the `initialize` or that of the `shutdown` is "no memory".
abbrev pub IsShort : (bodies : List (List ℕ)) (hello stop : Id) → ShutsDown bodies hello stop → List Outcome → Type 0
IsShort bodies hello stop d outcomes =
    (slice_get outcomes (length d.before) ≡ Some (no_memory hello)) ⊎ (slice_get outcomes (length (d.before ++ d.opening ∷ d.between)) ≡ Some (no_memory stop))

-- Over an input whose first `exit` comes behind an `initialize` and a later `shutdown` the status is 0; it may be 1 where one of
-- these two was answered "no memory" (LSP 3.17, "Shutdown Request" and "Exit Notification").
abbrev pub ShutdownEndsWell : Type 0
ShutdownEndsWell = (s next : Seen) (input : List ℕ) (before after : Option (List ℕ)) (old new : WorldState) (ended : Ended) (bodies : List (List ℕ)) (body : List ℕ) (hello stop : Id)
    (h : ServesWith s next (Some input) before after old new ended) → BeginFramesOf input (bodies ++ body ∷ []) → All IsNoExit bodies → IsExit body → (d : ShutsDown bodies hello stop)
    → IsOutside ended ⊎ ((ended ≡ status_of (Exit true)) ⊎ ((ended ≡ status_of (Exit false)) × IsShort bodies hello stop d (replies_to s h.serves.messages)))
