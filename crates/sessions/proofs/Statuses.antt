-- What a status tells of the ending.
use Rattle.std.proofs.Common.{◌≡◌, ◌≤◌, ℕ, true, false, List, [], ◌∷◌, Option, refl, arith}
use Rattle.outside.specs.declared.shelf.HeldFile.{HeldFile}
use Rattle.answers.specs.Sessions.{Seen}
use Rattle.answers.specs.Runs.{Message, session_after}
use Rattle.sessions.specs.Worlds.{WorldState}
use Rattle.json_rpc.specs.declared.fault.FrameFault.TheVariants.{Header, NoLength, TooLong, Cut, ReadFault, Budget, OutOfMemory}
use Rattle.sessions.specs.declared.ending.Ending as ways
use Rattle.sessions.specs.declared.ending.Ending.TheVariants.{Exit, Input, Frames, Sink, Memory}
use Rattle.sessions.specs.Served.{status_of, AllLoad, Serves}

-- The code 4 tells of a failed read alone, and 5 of a failed write.
pub read_fault : (way : ways.Ending) → (status_of way).code ≡ 4 → way ≡ Frames ReadFault
read_fault (Exit true) is = absurd (omega (arith, is))
read_fault (Exit false) is = absurd (omega (arith, is))
read_fault Input is = absurd (omega (arith, is))
read_fault (Frames (Header at)) is = absurd (omega (arith, is))
read_fault (Frames (NoLength at)) is = absurd (omega (arith, is))
read_fault (Frames (TooLong n)) is = absurd (omega (arith, is))
read_fault (Frames (Cut at)) is = absurd (omega (arith, is))
read_fault (Frames ReadFault) is = refl
read_fault (Frames Budget) is = absurd (omega (arith, is))
read_fault (Frames OutOfMemory) is = absurd (omega (arith, is))
read_fault Sink is = absurd (omega (arith, is))
read_fault Memory is = absurd (omega (arith, is))

pub write_fault : (way : ways.Ending) → (status_of way).code ≡ 5 → way ≡ Sink
write_fault (Exit true) is = absurd (omega (arith, is))
write_fault (Exit false) is = absurd (omega (arith, is))
write_fault Input is = absurd (omega (arith, is))
write_fault (Frames (Header at)) is = absurd (omega (arith, is))
write_fault (Frames (NoLength at)) is = absurd (omega (arith, is))
write_fault (Frames (TooLong n)) is = absurd (omega (arith, is))
write_fault (Frames (Cut at)) is = absurd (omega (arith, is))
write_fault (Frames ReadFault) is = absurd (omega (arith, is))
write_fault (Frames Budget) is = absurd (omega (arith, is))
write_fault (Frames OutOfMemory) is = absurd (omega (arith, is))
write_fault Sink is = refl
write_fault Memory is = absurd (omega (arith, is))

loads_later : (holds : Option (List HeldFile)) (n : ℕ) (s : Seen) (ms : List Message) (m : ℕ) → AllLoad holds n s ms m → n ≤ m
unfolding AllLoad
loads_later holds n s [] m h = omega (arith, h)
loads_later holds n s (x ∷ ms) m h = omega (arith, h.1.later, loads_later holds h.0 (session_after s x) ms m h.2)

-- Of the files nothing but the count of faults changes, and that doesn't fall.
pub served_later : (s next : Seen) (input before after : Option (List ℕ)) (old new : WorldState) (way : ways.Ending) → Serves s next input before after old new way → old.faults ≤ new.faults
served_later s next input before after old new way h = loads_later old.holds old.faults s h.messages new.faults h.met.loads

pub ruleset statuses = (read_fault, write_fault)
