-- A world in memory whose one client makes all changes.
use Rattle.std.specs.Prelude.{ℕ, List, Some}
use Rattle.decl_index.specs.declared.change.Change.{Change}
use Rattle.outside.specs.declared.shelf.HeldFile.{HeldFile}
use Rattle.sessions.specs.Worlds.{WorldState}

-- Its state: all its history is known and told, and so are its files.
abbrev pub mem_state : List Change → List ℕ → List HeldFile → ℕ → WorldState
mem_state history reads files faults = record { known = history; reads = reads; whole = Some history; holds = Some files; faults = faults }
