-- What a run of `serve` gives its clients, and the status that it answers.
use Rattle.std.specs.Prelude.{◌≡◌, ◌≤◌, ◌<◌, ◌==◌, ℕ, List, [], ◌∷◌, length, map, slice_get, Option, Some, None, if◌then◌else◌}
use Rattle.outside.specs.Causes.{Rose}
use Rattle.outside.specs.declared.end.End.{End}
use Rattle.outside.specs.declared.shelf.HeldFile.{HeldFile}
use Rattle.known_classes.specs.declared.summary.ClassSummary.{ClassSummary}
use Rattle.decl_index.specs.declared.change.Change.{Change}
use Rattle.decl_index.specs.History.{AreClasses}
use Rattle.version_board.specs.declared.snapshot.Snapshot.{Snapshot}
use Rattle.version_board.specs.Versions.{IsVersion}
use Rattle.start_text.specs.declared.fault.StartFault.{StartFault}
use Rattle.start_text.specs.declared.fault.StartFault.TheVariants as start_fault
use Rattle.start_text.specs.Faults.{fault_line, number_of}
use Rattle.start_text.specs.Starts.{publication, IsStart, IsFaultOf}
use Rattle.answers.specs.Sessions.{Seen}
use Rattle.answers.specs.Sessions as new
use Rattle.answers.specs.Histories.{IsPrefix}
use Rattle.sessions.specs.declared.ending.Ended.{Ended}
use Rattle.sessions.specs.Worlds.{WorldState}
use Rattle.sessions.specs.Served.{ServesWith}
use Rattle.statuses.specs.declared.status.Status.{Status}
use Rattle.serving.specs.declared.status.Serving.{Serving}
use Rattle.serving.specs.declared.status.Serving.TheVariants.{Sessions, NotStarted, ShelfFault, OutOfMemory}

-- What is seen of an end: the bytes left to read and those written, the files held, where these are told, and how often its source,
-- its sink and its shelf have failed.
pub record EndView : Type 0 where
  pub left : Option (List ℕ)
  pub written : Option (List ℕ)
  pub held : Option (List HeldFile)
  pub read_faults : ℕ
  pub write_faults : ℕ
  pub load_faults : ℕ

abbrev pub view_of : {S K H : Type 0} → (S → Option (List ℕ)) → (K → Option (List ℕ)) → (H → Option (List HeldFile)) → (S → ℕ) → (K → ℕ) → (H → ℕ) → End S K H → EndView
view_of left written holds reads writes loads e = record {
  left = left e.source;
  written = written e.sink;
  held = holds e.shelf;
  read_faults = reads e.source;
  write_faults = writes e.sink;
  load_faults = loads e.shelf;
}

-- What no run changes or takes back: the files held stay, and no count of faults falls.
pub record Lasts (e f : EndView) : Type 0 where
  pub held : f.held ≡ e.held
  pub reads : e.read_faults ≤ f.read_faults
  pub writes : e.write_faults ≤ f.write_faults
  pub loads : e.load_faults ≤ f.load_faults

-- The changes of a version that has at most one, which puts its classes in.
abbrev pub history_of : Snapshot → List Change
history_of s = if s.number == 0 then [] else publication s.index.classes ∷ []

-- The changes that a server starts at. Without a start text there are none. With one there is one, which puts in the classes that
-- its files leave: of two of one name that of the later line. Where the shelf tells its files they are those of the text's lines.
abbrev pub IsFirstHistory : Option (List ℕ) → Option (List HeldFile) → List Change → Type 0
IsFirstHistory None held history = history ≡ []
IsFirstHistory (Some name) held history = (read left : List ClassSummary) × (history ≡ publication left ∷ []) × AreClasses (publication read ∷ []) left
    × ((files : List HeldFile) → held ≡ Some files → IsStart files name read)

-- Nothing is wrong with the start text, if there is one.
abbrev pub IsSound : Option (List ℕ) → Option (List HeldFile) → Type 0
IsSound start held = (name : List ℕ) (files : List HeldFile) (fault : StartFault) → start ≡ Some name → held ≡ Some files → IsFaultOf files name fault → ⊥

-- The version is that at which a server starts.
pub record IsFirst (start : Option (List ℕ)) (held : Option (List HeldFile)) (s : Snapshot) : Type 0 where
  pub version : IsVersion (history_of s) s
  pub first : IsFirstHistory start held (history_of s)
  pub sound : IsSound start held

-- This is wrong with the start text, its files or their change, and nothing else is.
pub record IsStartFault (start : Option (List ℕ)) (held : Option (List HeldFile)) (fault : StartFault) : Type 0 where
  pub name : List ℕ
  pub named : start ≡ Some name
  pub wrong : (files : List HeldFile) → held ≡ Some files → IsFaultOf files name fault
  pub alone : (files : List HeldFile) (other : StartFault) → held ≡ Some files → IsFaultOf files name other → other ≡ fault

-- What a client has seen when it begins: the first changes, of which no version was read, and its files.
abbrev pub begun_at : List Change → EndView → WorldState
begun_at history e = record { known = history; reads = []; whole = None; holds = e.held; faults = e.load_faults }

-- A new session was served from the version of these changes on: what was written are the frames of the replies to the frames
-- read, and the headline holds of them. What the client had seen at its end is a prefix of all changes. A failed read or write is
-- that of its own source or sink, a file that couldn't be loaded one of its own shelf.
pub record IsServedFrom (history all : List Change) (e f : EndView) (ended : Ended) : Type 0 where
  pub next : Seen
  pub after : WorldState
  pub load_faults : after.faults ≡ f.load_faults
  pub serves : ServesWith new.start next e.left e.written f.written (begun_at history e) after ended
  pub seen : IsPrefix after.known all
  pub read_cause : ended.code ≡ 4 → Rose e.read_faults f.read_faults
  pub write_cause : ended.code ≡ 5 → Rose e.write_faults f.write_faults

-- Of these endings this one, at this place, has the greatest code, and no one before it has.
pub record IsGreatest (endings : List Ended) (place : ℕ) (ended : Ended) : Type 0 where
  pub at : slice_get endings place ≡ Some ended
  pub none_above : (i : ℕ) (other : Ended) → slice_get endings i ≡ Some other → other.code ≤ ended.code
  pub least : (i : ℕ) (other : Ended) → i < place → slice_get endings i ≡ Some other → other.code < ended.code

-- A new session was served over each end, all from the version of the same changes on. There is one list of changes: what each
-- client had seen at its end is a prefix of it. The answered ending is the one of the greatest code, of these that of the first end.
pub record AreServedFrom (history : List Change) (es fs : List EndView) (place : ℕ) (ended : Ended) : Type 0 where
  pub all : List Change
  pub endings : List Ended
  pub count : length endings ≡ length es
  pub each : (i : ℕ) (e f : EndView) (way : Ended) → slice_get es i ≡ Some e → slice_get fs i ≡ Some f → slice_get endings i ≡ Some way → IsServedFrom history all e f way
  pub greatest : IsGreatest endings place ended

-- The same, where sessions began.
abbrev pub AreServed : Serving → List Change → List EndView → List EndView → Type 0
AreServed (Sessions place ended) history es fs = AreServedFrom history es fs place ended
AreServed (NotStarted line cause) history es fs = ⊥
AreServed ShelfFault history es fs = ⊥
AreServed OutOfMemory history es fs = Unit {0}

-- The start text is loaded from the shelf of the first end: the files that it holds, and how often it has failed.
abbrev pub first_held : List EndView → Option (List HeldFile)
first_held [] = None
first_held (e ∷ es) = e.held

abbrev pub first_loads : List EndView → ℕ
first_loads [] = 0
first_loads (e ∷ es) = e.load_faults

-- The ends where that shelf has failed so often.
abbrev pub with_loads : ℕ → List EndView → List EndView
with_loads loads [] = []
with_loads loads (e ∷ es) = record e { load_faults = loads } ∷ es

-- New sessions were served from the version of the first changes on. While these were loaded the shelf may have failed as well.
pub record HasServed (start : Option (List ℕ)) (es fs : List EndView) (place : ℕ) (ended : Ended) : Type 0 where
  pub history : List Change
  pub first : IsFirstHistory start (first_held es) history
  pub sound : IsSound start (first_held es)
  pub loads : ℕ
  pub later : first_loads es ≤ loads
  pub served : AreServedFrom history (with_loads loads es) fs place ended

-- The start text is wrong, by the fault of this line and number.
pub record HasNoStart (start : Option (List ℕ)) (held : Option (List HeldFile)) (place number : ℕ) : Type 0 where
  pub fault : StartFault
  pub is : IsStartFault start held fault
  pub line : place ≡ fault_line fault
  pub cause : number_of fault ≡ Some number

-- How a run of `serve` ended, by what is seen of its ends before and after.
abbrev pub ServesBy : Serving → Option (List ℕ) → List EndView → List EndView → Type 0
ServesBy (Sessions place ended) start es fs = HasServed start es fs place ended
ServesBy (NotStarted line cause) start es fs = HasNoStart start (first_held es) line cause
ServesBy ShelfFault start es fs = Rose (first_loads es) (first_loads fs)
ServesBy OutOfMemory start es fs = Unit {0}

-- No session began.
abbrev pub HasNotBegun : Serving → Type 0
HasNotBegun (Sessions place ended) = ⊥
HasNotBegun (NotStarted line cause) = Unit {0}
HasNotBegun ShelfFault = Unit {0}
HasNotBegun OutOfMemory = Unit {0}

-- Nothing was read from the sources of these ends, and nothing was written to their sinks.
module _ {S K H : Type 0} where
  pub record AreUntouched (es fs : List (End S K H)) : Type 0 where
    pub sources : map (λ (e : End S K H). e.source) fs ≡ map (λ (e : End S K H). e.source) es
    pub sinks : map (λ (e : End S K H). e.sink) fs ≡ map (λ (e : End S K H). e.sink) es

-- Of each end the files held stay, and no count of its faults falls; the ends are as many as before, each at its place.
pub record AllLast (es fs : List EndView) : Type 0 where
  pub count : length fs ≡ length es
  pub each : (i : ℕ) (e f : EndView) → slice_get es i ≡ Some e → slice_get fs i ≡ Some f → Lasts e f

-- What a fault of the start ends a run by.
abbrev pub Tells : StartFault → Serving → Type 0
Tells fault (Sessions place ended) = ⊥
Tells fault (NotStarted line cause) = (line ≡ fault_line fault) × (number_of fault ≡ Some cause)
Tells fault ShelfFault = fault ≡ start_fault.Failed
Tells fault OutOfMemory = number_of fault ≡ None

-- The status of a run of `serve`: that of the answered session and its end; 8 with the line and the number of what is wrong with the
-- start text; 4 for the first end's shelf, and 6 for want of memory, before a session began.
unfoldable pub serving_status : Serving → Status
serving_status (Sessions place ended) = record { code = ended.code; end = place; place = ended.place; cause = ended.cause }
serving_status (NotStarted line cause) = record { code = 8; end = 0; place = line; cause = cause }
serving_status ShelfFault = record { code = 4; end = 0; place = 0; cause = 0 }
serving_status OutOfMemory = record { code = 6; end = 0; place = 0; cause = 0 }
