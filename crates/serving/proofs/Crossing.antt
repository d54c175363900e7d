-- A hub may be shared by threads, where its board and its listings may.
use mathlib.Core.List.{List}
use denote.RattleType.{RattleType}
use denote.Param.Send.{IsSync, sendable}
use Rattle.core.specs.contracts.sync.Mutex as Mutex
use Rattle.decl_index.specs.declared.change.Change.{Change}
use Rattle.left_right.specs.declared.Absorb as absorb
use Rattle.version_board.specs.declared.log.Naming as naming
use Rattle.version_board.specs.declared.shown.Shown.{Shown}
use Rattle.version_board.specs.contracts.publisher.Publisher as Publisher
use Rattle.sessions.specs.contracts.hub.Hub as Hub
use Rattle.serving.specs.Crossing.{slots_row}

module _ (J R : RattleType) (g : naming.Ghosts J.Denot) (a : absorb.Ghosts (Shown J.Denot) (Shown J.Denot) (List Change)) where
  pub hub_sync : IsSync (Mutex.the_field (Publisher.the_row J R g a)).row → IsSync slots_row → IsSync (Hub.the_row J R g a)
  hub_sync board slots = search sendable depth 20
