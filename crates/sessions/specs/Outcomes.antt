-- What the code answers, as an outcome.
use Rattle.std.specs.Prelude.{ℕ, Result, Ok, Err}
use Rattle.std.specs.declared.alloc.AllocError.{AllocError}
use Rattle.std.specs.declared.vec.Vec.{Vec}
use Rattle.std.specs.declared.alloc.Global.{Global}
use Rattle.json_rpc.specs.declared.message.Id.{Id}
use Rattle.sessions.specs.declared.outcome.Outcome as code
use Rattle.sessions.specs.declared.outcome.Outcome.TheVariants as variant
use Rattle.answers.specs.Messages.{Outcome, replied, no_memory, silent, exited, lost}

-- The outcome that a step answers.
abbrev pub said_of : Result code.Outcome AllocError → Outcome
said_of (Ok (variant.Reply bytes)) = replied bytes.items
said_of (Ok (variant.NoMemory id)) = no_memory id
said_of (Ok variant.Silent) = silent
said_of (Ok (variant.Exit is_stopped)) = exited is_stopped
said_of (Err e) = lost

-- The outcome of a request: its reply, or that memory was wanting for it.
abbrev pub replied_or : Id → Result (Vec ℕ Global) AllocError → Outcome
replied_or id (Ok bytes) = replied bytes.items
replied_or id (Err e) = no_memory id

-- The outcome of a notification of a document.
abbrev pub silent_or : Result (Unit {0}) AllocError → Outcome
silent_or (Ok done) = silent
silent_or (Err e) = lost
