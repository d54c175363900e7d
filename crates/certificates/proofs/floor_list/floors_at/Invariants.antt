use Rattle.std.proofs.Common.{◌≡◌, map, take}
use Rattle.certificates.specs.Floors.{floor_at}
use Rattle.certificates.proofs.floor_list.floors_at.Given as goal

abbrev pub invariant-loop-state : goal.invariant-loop-state
invariant-loop-state l = l.floors ≡ map (floor_at l.initial.env l.initial.tables.patterns l.initial.tables.least) (take l.state-index l.initial.states)
