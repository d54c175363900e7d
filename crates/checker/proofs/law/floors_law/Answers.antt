use Rattle.checker.proofs.Bounds.{bounds, no_inhabitant}
use Rattle.checker.proofs.law.floors_law.Goals as goal

pub returns-clause-lower : goal.returns-clause-lower
returns-clause-lower c = bounds

pub returns-clause-none : goal.returns-clause-none
returns-clause-none c = no_inhabitant
