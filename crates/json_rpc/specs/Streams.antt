-- A stream of frames: what stands at its front, and what a reader has taken and met.
use Rattle.std.specs.Prelude.{◌≡◌, ◌≢◌, ℕ, ◌+◌, ◌^◌, ◌<◌, ◌≤◌, Bool, List, [], ◌++◌, length, take, drop, if◌then◌else◌, nat_le, Option, Some, None, IsTrue, IsFalse}
use Rattle.std.specs.Io.KnownBytes.{Consumes, Keeps, IsAtEnd}
use Rattle.json_rpc.specs.Heads.{start, scan_from}
use Rattle.json_rpc.specs.declared.fault.FrameFault.{FrameFault}
use Rattle.json_rpc.specs.declared.fault.FrameFault.TheVariants.{Header, NoLength, TooLong, Cut, ReadFault, Budget, OutOfMemory}
use Rattle.json_rpc.specs.declared.header.Head.{Head}
use Rattle.json_rpc.specs.declared.header.Reading.{Reading}
use Rattle.json_rpc.specs.declared.header.Reading.TheVariants.{More, Whole, Bad}

-- How many bytes a session reads at most.
abbrev pub budget : ℕ
budget = 2 ^ 40

-- What stands at the front of the bytes: less than a frame without a violation, a body and what follows its frame, or a violation
pub data Next : Type 0 where
  partial : Next
  whole : List ℕ → List ℕ → Next
  wrong : FrameFault → Next

-- The same after a header part of n bytes: a length of more than 16,777,216 is looked at before the body.
unfoldable pub by_length : ℕ → List ℕ → ℕ → Head → Next
by_length at bytes n h =
    if h.told then
    (if nat_le h.length 16777216 then
    (if nat_le (n + h.length) (length bytes) then whole (take h.length (drop n bytes)) (drop (n + h.length) bytes) else partial)
    else wrong (TooLong h.length))
    else wrong (NoLength (at + n))

unfoldable pub by_reading : ℕ → List ℕ → Reading → Next
by_reading at bytes More = partial
by_reading at bytes (Whole n h) = by_length at bytes n h
by_reading at bytes (Bad n) = wrong (Header (at + n))

-- The same where the first of the bytes stands at this place of the whole input.
abbrev pub next_of : ℕ → List ℕ → Next
next_of at bytes = by_reading at bytes (scan_from 0 0 start bytes)

-- the bytes of the frames that were given, the bytes taken since, and what ended the frames
pub record Progress : Type 0 where
  pub place : ℕ
  pub held : List ℕ
  pub fault : Option FrameFault

-- A fault that is kept lasts: it is met again. A read fault and want of memory pass.
abbrev pub IsLasting : Option FrameFault → Type 0
IsLasting None = Unit {0}
IsLasting (Some (Header k)) = Unit {0}
IsLasting (Some (NoLength k)) = Unit {0}
IsLasting (Some (TooLong k)) = Unit {0}
IsLasting (Some (Cut k)) = Unit {0}
IsLasting (Some ReadFault) = ⊥
IsLasting (Some Budget) = Unit {0}
IsLasting (Some OutOfMemory) = ⊥

-- As many bytes have been taken as before.
abbrev pub IsAsFar : Progress → Progress → Type 0
IsAsFar old new = new.place + length new.held ≡ old.place + length old.held

-- This fault ends the stream.
abbrev pub ended : Progress → FrameFault → Progress
ended p f = record p { fault = Some f }

-- A frame was taken from the front of the held bytes.
pub record TakesFrame (old new : Progress) (body : List ℕ) : Type 0 where
  pub frame : next_of old.place old.held ≡ whole body new.held
  pub place : new.place + length new.held ≡ old.place + length old.held
  pub fault : new.fault ≡ None

-- The held bytes begin with a violation, which ends the stream.
abbrev pub MeetsWrong : Progress → Progress → FrameFault → Type 0
MeetsWrong old new f = (next_of old.place old.held ≡ wrong f) × (new ≡ ended old f)

-- Why no frame was taken from the held bytes.
abbrev pub MeetsFault : Progress → Progress → FrameFault → Type 0
MeetsFault old new (Header k) = MeetsWrong old new (Header k)
MeetsFault old new (NoLength k) = MeetsWrong old new (NoLength k)
MeetsFault old new (TooLong k) = MeetsWrong old new (TooLong k)
MeetsFault old new (Cut k) = ⊥
MeetsFault old new ReadFault = ⊥
MeetsFault old new Budget = ⊥
MeetsFault old new OutOfMemory = new ≡ old

-- So many bytes, of at most `most`, were taken from the source and are held; none is the end of the input.
pub record Holds (old new : List ℕ) (before now : Option (List ℕ)) (count most : ℕ) : Type 0 where
  pub taken : List ℕ
  pub from : Consumes before now taken
  pub held : new ≡ old ++ taken
  pub many : length taken ≡ count
  pub few : count ≤ most
  pub end : count ≡ 0 → 0 < most → IsAtEnd now

-- Bytes were taken from the source; none is the end of the input.
pub record Fills (old new : Progress) (before now : Option (List ℕ)) (more : Bool) : Type 0 where
  pub taken : List ℕ
  pub from : Consumes before now taken
  pub held : new ≡ record old { held = old.held ++ taken }
  pub some : IsTrue more → 0 < length taken
  pub none : IsFalse more → (taken ≡ []) × IsAtEnd now × (old.place + length old.held < budget)

-- Why no bytes were taken from the source.
abbrev pub FillFails : Progress → Progress → Option (List ℕ) → Option (List ℕ) → FrameFault → Type 0
FillFails old new before now (Header k) = ⊥
FillFails old new before now (NoLength k) = ⊥
FillFails old new before now (TooLong k) = ⊥
FillFails old new before now (Cut k) = ⊥
FillFails old new before now ReadFault = (new ≡ old) × Keeps before now
FillFails old new before now Budget = (old.place + length old.held ≡ budget) × (new ≡ ended old Budget) × Keeps before now
FillFails old new before now OutOfMemory = (new ≡ old) × Keeps before now

-- The next frame was given, with the bytes that this call took from the source.
pub record Gives (old new : Progress) (before now : Option (List ℕ)) (body : List ℕ) : Type 0 where
  pub taken : List ℕ
  pub from : Consumes before now taken
  pub frame : next_of old.place (old.held ++ taken) ≡ whole body new.held
  pub place : new.place + length new.held ≡ old.place + length (old.held ++ taken)
  pub fault : new.fault ≡ None

-- The input ended between two frames, before the budget was used up.
pub record Ends (old new : Progress) (before now : Option (List ℕ)) : Type 0 where
  pub from : Consumes before now []
  pub held : old.held ≡ []
  pub same : new ≡ old
  pub end : IsAtEnd now
  pub budget : old.place < budget

-- The reader, holding these bytes, once this fault has ended the stream.
abbrev pub stopped : Progress → List ℕ → FrameFault → Progress
stopped old bytes f = record { place = old.place; held = bytes; fault = Some f }

-- Why no frame was given, where these bytes were held at last: a violation at their front, or less than a frame
-- at the end of the input or of the budget. After a read fault or want of memory all bytes are kept.
abbrev pub FailsAt : Progress → Progress → List ℕ → Option (List ℕ) → FrameFault → Type 0
FailsAt old new bytes now (Header k) = (next_of old.place bytes ≡ wrong (Header k)) × (new ≡ stopped old bytes (Header k))
FailsAt old new bytes now (NoLength k) = (next_of old.place bytes ≡ wrong (NoLength k)) × (new ≡ stopped old bytes (NoLength k))
FailsAt old new bytes now (TooLong k) = (next_of old.place bytes ≡ wrong (TooLong k)) × (new ≡ stopped old bytes (TooLong k))
FailsAt old new bytes now (Cut k) = (next_of old.place bytes ≡ partial) × (bytes ≢ []) × (k ≡ old.place + length bytes) × (k < budget) × IsAtEnd now × (new ≡ stopped old bytes (Cut k))
FailsAt old new bytes now ReadFault = new ≡ record old { held = bytes }
FailsAt old new bytes now Budget = (next_of old.place bytes ≡ partial) × (old.place + length bytes ≡ budget) × (new ≡ stopped old bytes Budget)
FailsAt old new bytes now OutOfMemory = new ≡ record old { held = bytes }

-- No frame was given, with the bytes that this call took from the source.
pub record Fails (old new : Progress) (before now : Option (List ℕ)) (f : FrameFault) : Type 0 where
  pub taken : List ℕ
  pub from : Consumes before now taken
  pub at : FailsAt old new (old.held ++ taken) now f

-- Bytes were taken and are held.
pub record Taken (old new : Progress) (before now : Option (List ℕ)) : Type 0 where
  pub taken : List ℕ
  pub from : Consumes before now taken
  pub held : new ≡ record old { held = old.held ++ taken }
