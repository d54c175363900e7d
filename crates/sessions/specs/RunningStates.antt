-- A world of versions that others publish as well.
use Rattle.std.specs.Prelude.{ℕ, List, Option, None}
use Rattle.outside.specs.declared.shelf.HeldFile.{HeldFile}
use Rattle.version_board.specs.declared.view.View.{View}
use Rattle.sessions.specs.Worlds.{WorldState}

-- Its state: what its client's pass has seen and read, and the client's files. Nobody knows the whole history.
abbrev pub running_state : View → Option (List HeldFile) → ℕ → WorldState
running_state v holds faults = record { known = v.seen; reads = v.reads; whole = None; holds = holds; faults = faults }
