use Rattle.std.proofs.Common.{sym}
use Rattle.patterns.proofs.Quiet.{quiet-unnumbered}
use Rattle.patterns.proofs.saturate.try_numbered.Goals as goal

pub returns-in-None-clause-quiet : goal.returns-in-None-clause-quiet
returns-in-None-clause-quiet c i count rest low = quiet-unnumbered c.args.sets.now c.args.kinds.now c.args.states.now.keys c.args.uses.now _ _ i c.args.number rest count (sym c.in-None.ensures.value)
