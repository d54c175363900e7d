-- What stops a session, and that it stays stopped.
use Rattle.std.proofs.Common.{◌≡◌, ℕ, ap, sym, ◌∙◌, List, [], ◌∷◌, refl, subst, Bool, true, false, Option, Some, None}
use Rattle.std.specs.Prelude.{if◌then◌else◌, codes, bytes_eq}
use Rattle.serde_json.specs.Data.{Data}
use Rattle.json_rpc.specs.declared.message.Id.{Id}
use Rattle.json_rpc.specs.Messages.{Heard, request, notice, response, invalid, message_of}
use Rattle.answers.specs.declared.types.Phase.{Phase}
use Rattle.answers.specs.declared.types.Phase.TheVariants.{Running, Stopped}
use Rattle.answers.specs.Asks.{Short, Enough, Lacking, Ending, Met}
use Rattle.answers.specs.Sessions.{Seen}
use Rattle.answers.specs.Messages.{Meaning, asks, publishes, says, lacks, starts, stops, edits, leaves, drops, running_request, request_by, notice_by, notice_in, meaning_in, meaning_of, by_memory, Outcome}
use Rattle.answers.specs.Runs.{Message, ends, outcome, session_after, seen_after}
use Rattle.endings.specs.Decided.{StoppedStays, ShutdownStops}

-- What a message can mean in a stopped session: it changes nothing.
abbrev IsIdle : Meaning → Type 0
IsIdle (asks id ask) = ⊥
IsIdle (publishes id files removes counts) = ⊥
IsIdle (says id reply) = Unit {0}
IsIdle (lacks id) = ⊥
IsIdle (starts id options) = ⊥
IsIdle (stops id) = ⊥
IsIdle (edits uri edit) = ⊥
IsIdle leaves = Unit {0}
IsIdle drops = Unit {0}

either : (b : Bool) (x y : Meaning) → IsIdle x → IsIdle y → IsIdle (if b then x else y)
either true x y p q = p
either false x y p q = q

idle : (s : Seen) (h : Option Heard) → s.phase ≡ Stopped → IsIdle (meaning_in s h)
unfolding notice_in
idle s None e = tt
idle s (Some (invalid id)) e = tt
idle s (Some response) e = tt
idle s (Some (request id method params)) e = subst (λ (p : Phase). IsIdle (request_by p s id method params)) (sym e) tt
idle s (Some (notice method params)) e =
    either (bytes_eq method (codes "exit")) leaves (notice_by s.phase s method params) tt (subst (λ (p : Phase). IsIdle (notice_by p s method params)) (sym e) tt)

idle_keeps : (x : Short) (s : Seen) (meaning : Meaning) (m : Met) → IsIdle meaning → (by_memory x s meaning m).0 ≡ s
idle_keeps Enough s (says id reply) m i = refl
idle_keeps Enough s leaves m i = refl
idle_keeps Enough s drops m i = refl
idle_keeps Enough s (asks id ask) m i = absurd i
idle_keeps Enough s (publishes id files removes counts) m i = absurd i
idle_keeps Enough s (lacks id) m i = absurd i
idle_keeps Enough s (starts id options) m i = absurd i
idle_keeps Enough s (stops id) m i = absurd i
idle_keeps Enough s (edits uri edit) m i = absurd i
idle_keeps Lacking s (says None reply) m i = refl
idle_keeps Lacking s (says (Some id) reply) m i = refl
idle_keeps Lacking s leaves m i = refl
idle_keeps Lacking s drops m i = refl
idle_keeps Lacking s (asks id ask) m i = absurd i
idle_keeps Lacking s (publishes id files removes counts) m i = absurd i
idle_keeps Lacking s (lacks id) m i = absurd i
idle_keeps Lacking s (starts id options) m i = absurd i
idle_keeps Lacking s (stops id) m i = absurd i
idle_keeps Lacking s (edits uri edit) m i = absurd i
idle_keeps Ending s meaning m i = refl

pub keeps : (s : Seen) (m : Message) → s.phase ≡ Stopped → session_after s m ≡ s
keeps s m e = idle_keeps m.met.short s (meaning_of s m.body) m.met (idle s (message_of m.body) e)

stays_if : (b : Bool) (s next : Seen) → s.phase ≡ Stopped → next.phase ≡ Stopped → (if b then s else next).phase ≡ Stopped
stays_if true s next p q = p
stays_if false s next p q = q

pub stopped_stays : StoppedStays
unfolding seen_after
stopped_stays s [] e = e
stopped_stays s (m ∷ ms) e =
    let after : (session_after s m).phase ≡ Stopped = ap (λ (x : Seen). x.phase) (keeps s m e) ∙ e in
    stays_if (ends (outcome s m)) (session_after s m) (seen_after (session_after s m) ms) after (stopped_stays (session_after s m) ms after)

shutdown_row : (s : Seen) (id : Id) (params : Data) → running_request s id (codes "shutdown") params ≡ stops id
unfolding running_request
shutdown_row s id params = refl

pub means_stop : (s : Seen) (body : List ℕ) (id : Id) (params : Data) → s.phase ≡ Running → message_of body ≡ Some (request id (codes "shutdown") params) → meaning_of s body ≡ stops id
means_stop s body id params p e =
    ap (meaning_in s) e ∙ ap (λ (x : Phase). request_by x s id (codes "shutdown") params) p ∙ shutdown_row s id params

pub shutdown_stops : ShutdownStops
shutdown_stops s m id params p e enough =
    let is : by_memory m.met.short s (meaning_of s m.body) m.met ≡ by_memory Enough s (stops id) m.met =
    ap (λ (x : Short). by_memory x s (meaning_of s m.body) m.met) enough ∙ ap (λ (x : Meaning). by_memory Enough s x m.met) (means_stop s m.body id params p e) in
    (ap (λ (r : Seen × Outcome). r.0.phase) is, ap (λ (r : Seen × Outcome). r.1) is)
